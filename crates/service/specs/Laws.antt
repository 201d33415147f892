-- What holds of every list of calls.
use Rattle.std.specs.Prelude.{◌≡◌, ℕ, ⊤, List, ◌++◌, length, take, slice_get, Some, Err}
use Rattle.model.specs.Model.{Model, Lawful}
use Rattle.criteria.specs.Criteria.{Ops}
use Rattle.sheets.specs.declared.note.Note.{Note}
use Rattle.service.specs.declared.call.Call.{Call}
use Rattle.service.specs.declared.call.Request.{Request}
use Rattle.following.specs.declared.follow.Unfollowed.TheVariants as unfollowed
use Rattle.service.specs.declared.call.CallRefusal.{CallRefusal}
use Rattle.service.specs.declared.call.CallRefusal.TheVariants as refusal
use Rattle.service.specs.Calls.{standing, standing_after}
use Rattle.service.specs.Serving.{Answers, Answered, Served}

-- a refusal that comes before any table is written: every one but that of beginning a round, whose plan was accepted
abbrev pub BeforeAnyTable : CallRefusal → Type 0
BeforeAnyTable (refusal.Note f) = ⊤
BeforeAnyTable (refusal.Plan f) = ⊤
BeforeAnyTable (refusal.Round (unfollowed.Plan f)) = ⊤
BeforeAnyTable (refusal.Round (unfollowed.Begin f)) = ⊥

module _ {C V A : Type 0} (ops : C → Ops V A) where
  -- on a lawful book, the notes and the requests before determine the requests after, with all that their tables hold
  abbrev pub ServingIsDetermined : Type 0
  ServingIsDetermined = (m : Model) → Lawful m → (ns : List Note) (xs ys zs : List (Request C V)) → Served ops m ns xs ys → Served ops m ns xs zs → ys ≡ zs

  -- of a list that is served each request is answered, under the notes that the calls before it have left
  abbrev pub EachIsServed : Type 0
  EachIsServed = (m : Model) (ns : List Note) (xs ys : List (Request C V)) → Served ops m ns xs ys → (length ys ≡ length xs) × ((i : ℕ) (x y : Request C V) → slice_get xs i ≡ Some x → slice_get ys i ≡ Some y → Answered ops m (standing_after m ns (take i xs)) x y)

  -- a list that is served in two parts is served
  abbrev pub PartsAreTheWhole : Type 0
  PartsAreTheWhole = (m : Model) (ns : List Note) (xs ys xs' ys' : List (Request C V)) → Served ops m ns xs ys → Served ops m (standing_after m ns xs) xs' ys' → Served ops m ns (xs ++ xs') (ys ++ ys')

  -- a call that is declined leaves the notes, and is given back as it was brought, tables and all; where a round was
  -- planned and then not begun, the tables of its plan stand
  abbrev pub DeclinedIsUnchanged : Type 0
  DeclinedIsUnchanged = (m : Model) (ns : List Note) (c back : Call C V) (f : CallRefusal) → Answers ops m ns c (Err f) back → (standing m ns c ≡ ns) × (BeforeAnyTable f → back ≡ c)
