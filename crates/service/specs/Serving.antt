-- A list of calls on one sheet: what each answers, and how it is given back.
use Rattle.std.specs.Prelude.{◌≡◌, ℕ, List, [], ◌∷◌, length, ℤ, Some, Result}
use Rattle.std.specs.Result.{result_map_both}
use Rattle.std.specs.Vec.{with_items}
use Rattle.std.specs.declared.vec.Vec.{Vec}
use Rattle.std.specs.declared.alloc.Global.{Global}
use Rattle.model.specs.Model.{Model, offers}
use Rattle.criteria.specs.Criteria.{Ops}
use Rattle.sheets.specs.declared.note.Note.{Note}
use Rattle.sheets.specs.declared.refusal.NoteRefusal.{NoteRefusal}
use Rattle.sheets.specs.Notes.{noted}
use Rattle.sheets.specs.Calls.{to_bar, to_surcharge, to_prolong, to_lift}
use Rattle.checks.specs.declared.refusal.PlanRefusal.{PlanRefusal}
use Rattle.planning.specs.Plans.{PlanAnswers, StuckExactly}
use Rattle.planning.specs.Judgements.{JudgeAnswers}
use Rattle.following.specs.declared.call.Turn.{Turn}
use Rattle.following.specs.declared.follow.Unfollowed.{Unfollowed}
use Rattle.following.specs.Following.{RoundAnswers}
use Rattle.service.specs.declared.call.Call.{Call}
use Rattle.service.specs.declared.call.Call.TheVariants.{Bar, Surcharge, Prolong, Lift, Judge, Plan, Round}
use Rattle.service.specs.declared.call.Request.{Request}
use Rattle.service.specs.declared.call.CallRefusal.{CallRefusal}
use Rattle.service.specs.declared.call.CallRefusal.TheVariants as refusal
use Rattle.service.specs.Calls.{standing}

-- what a call answers where the notes answer this, or a plan or a judgement, or a round
abbrev pub of_notes : Result ℕ NoteRefusal → Result ℕ CallRefusal
of_notes x = result_map_both (λ n. n) refusal.Note x

abbrev pub of_plans : Result ℕ PlanRefusal → Result ℕ CallRefusal
of_plans x = result_map_both (λ n. n) refusal.Plan x

abbrev pub of_rounds : Result ℕ Unfollowed → Result ℕ CallRefusal
of_rounds x = result_map_both (λ n. n) refusal.Round x

-- the same table with other entries
abbrev pub Rewritten : {X : Type 0} → Vec X Global → Vec X Global → Type 0
Rewritten before after = after ≡ with_items before after.items

module _ {C V A : Type 0} (ops : C → Ops V A) (m : Model) where
  -- a judgement under some notes, what it answers, and the call as it is given back: its values are written, nothing else
  pub record JudgementPerformed (ns : List Note) (c : C) (H : ℕ) (vs : Vec V Global) (rs : Vec ℕ Global) (a : Result ℕ CallRefusal) (back : Call C V) : Type 0 where
    pub answer : Result ℕ PlanRefusal
    pub values : Vec V Global
    pub answered : a ≡ of_plans answer
    pub given_back : back ≡ Judge c H values rs
    pub values_written : Rewritten vs values
    pub judged : JudgeAnswers (ops c) (noted m ns) H answer vs.items values.items rs.items

  -- a plan likewise: both tables are written
  pub record PlanPerformed (ns : List Note) (c : C) (H : ℕ) (vs : Vec V Global) (rs : Vec ℕ Global) (a : Result ℕ CallRefusal) (back : Call C V) : Type 0 where
    pub answer : Result ℕ PlanRefusal
    pub values : Vec V Global
    pub remedies : Vec ℕ Global
    pub answered : a ≡ of_plans answer
    pub given_back : back ≡ Plan c H values remedies
    pub values_written : Rewritten vs values
    pub remedies_written : Rewritten rs remedies
    pub planned : PlanAnswers (ops c) (noted m ns) H answer vs.items values.items rs.items remedies.items
    pub stuck : StuckExactly (noted m ns) H (length vs.items) (length rs.items) answer

  -- a round likewise: it follows a plan by the floor, whatever the criterion of the others
  pub record RoundPerformed (ns : List Note) (H s : ℕ) (vs : Vec ℤ Global) (rs : Vec ℕ Global) (ts : Vec Turn Global) (a : Result ℕ CallRefusal) (back : Call C V) : Type 0 where
    pub answer : Result ℕ Unfollowed
    pub values : Vec ℤ Global
    pub remedies : Vec ℕ Global
    pub turns : Vec Turn Global
    pub answered : a ≡ of_rounds answer
    pub given_back : back ≡ Round H s values remedies turns
    pub values_written : Rewritten vs values
    pub remedies_written : Rewritten rs remedies
    pub turns_written : Rewritten ts turns
    pub led : RoundAnswers (noted m ns) H s answer vs.items values.items rs.items remedies.items ts.items turns.items

  -- a call under some notes, its answer, and the call as it is given back
  abbrev pub Answers : List Note → Call C V → Result ℕ CallRefusal → Call C V → Type 0
  Answers ns (Bar s r f l) a back = (a ≡ of_notes (to_bar (offers m) ns s r (record { first = f; last = l })).0) × (back ≡ Bar s r f l)
  Answers ns (Surcharge r x f l) a back = (a ≡ of_notes (to_surcharge (offers m) ns r x (record { first = f; last = l })).0) × (back ≡ Surcharge r x f l)
  Answers ns (Prolong p l) a back = (a ≡ of_notes (to_prolong ns p l).0) × (back ≡ Prolong p l)
  Answers ns (Lift p) a back = (a ≡ of_notes (to_lift ns p).0) × (back ≡ Lift p)
  Answers ns (Judge c H vs rs) a back = JudgementPerformed ns c H vs rs a back
  Answers ns (Plan c H vs rs) a back = PlanPerformed ns c H vs rs a back
  Answers ns (Round H s vs rs ts) a back = RoundPerformed ns H s vs rs ts a back

  -- a request before and after: its call is answered beside it
  pub record Answered (ns : List Note) (before after : Request C V) : Type 0 where
    pub answer : Result ℕ CallRefusal
    pub written : after.answer ≡ Some answer
    pub performed : Answers ns before.call answer after.call

  -- the whole list, from the notes standing before it: each request is answered under the notes standing when it
  -- comes, and none is passed over
  abbrev pub Served : List Note → (before after : List (Request C V)) → Type 0
  Served ns [] [] = Unit {0}
  Served ns [] (y ∷ ys) = ⊥
  Served ns (x ∷ xs) [] = ⊥
  Served ns (x ∷ xs) (y ∷ ys) = Answered ns x y × Served (standing m ns x.call) xs ys
