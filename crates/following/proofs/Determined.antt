-- Calls from any state have replies, and only one list of them.
use Rattle.std.proofs.Common.{◌≡◌, ℕ, Bool, true, false, cond, leb, eqb, ◌⊎◌, inl, inr, List, [], ◌∷◌, ℤ, Ok, Err, Option, Some, None, Result, refl, sym, ap, ◌∙◌}
use Rattle.model.specs.Model.{Model, offers}
use Rattle.rounds.specs.States.{Arrival, Treatment}
use Rattle.rounds.specs.Calls.{given_back, to_name, treated_by, treated_as_named, to_treat, is_unknown, next_arrival, to_report, final_total, to_settle}
use Rattle.rounds.specs.declared.refusal.RoundRefusal.{RoundRefusal}
use Rattle.rounds.specs.declared.refusal.RoundRefusal.TheVariants.{Unknown, Impossible, Early}
use Rattle.rounds.specs.declared.state.Declined.{Declined}
use Rattle.following.specs.declared.call.RoundCall.{RoundCall}
use Rattle.following.specs.declared.call.RoundCall.TheVariants.{Treat, Report, Settle}
use Rattle.following.specs.declared.call.Reply.{Reply}
use Rattle.following.specs.declared.call.Reply.TheVariants.{Treated, Reported, Settled}
use Rattle.following.specs.declared.call.Reply.TheVariants.{Declined as Refused}
use Rattle.following.specs.declared.lock.Lock.{Lock}
use Rattle.following.specs.declared.lock.Lock.TheVariants.{Waiting, InCare, Done}
use Rattle.following.specs.Runs.{allows, Does, Runs}
use Rattle.following.specs.Runs.Does.{treats, treats_not, reports, reports_not, settles, settles_not}
use Rattle.following.specs.Runs.Runs.{ends, goes, stops}
use Rattle.following.specs.Laws.{RunsAreDetermined}

-- a reply, if there is one, and the state after it
abbrev After : Type 0
After = Option Reply × Lock

abbrev after_treat : Result Treatment (Declined Arrival) → After
after_treat (Ok b) = (Some (Treated b.remedy), InCare b)
after_treat (Err x) = (Some (Refused x.refusal), Waiting x.state)

abbrev after_report : Result Arrival (Declined Treatment) → After
after_report (Ok a) = (Some Reported, Waiting a)
after_report (Err x) = (Some (Refused x.refusal), InCare x.state)

abbrev after_settle : Result ℤ (Declined Arrival) → After
after_settle (Ok z) = (Some (Settled z), Done)
after_settle (Err x) = (Some (Refused x.refusal), Waiting x.state)

module _ (m : Model) (rs : List ℕ) where
  abbrev after : Lock → RoundCall → After
  after (Waiting a) Treat = after_treat (to_treat (offers m) rs a)
  after (Waiting a) (Report j) = (None, Done)
  after (Waiting a) Settle = after_settle (to_settle m a)
  after (InCare b) Treat = (None, Done)
  after (InCare b) (Report j) = after_report (to_report m b j)
  after (InCare b) Settle = (None, Done)
  after Done Treat = (None, Done)
  after Done (Report j) = (None, Done)
  after Done Settle = (None, Done)

  does_so : {l l' : Lock} {d : RoundCall} {z : Reply} → Does m rs l d z l' → after l d ≡ (Some z, l')
  does_so (treats a b e) = ap after_treat e
  does_so (treats_not a f e) = ap after_treat e
  does_so (reports b j a e) = ap after_report e
  does_so (reports_not b j f e) = ap after_report e
  does_so (settles a z e) = ap after_settle e
  does_so (settles_not a f e) = ap after_settle e

  shut_out : (l : Lock) (d : RoundCall) → allows l d ≡ false → after l d ≡ (None, Done)
  shut_out (Waiting a) Treat e = cc
  shut_out (Waiting a) (Report j) e = refl
  shut_out (Waiting a) Settle e = cc
  shut_out (InCare b) Treat e = refl
  shut_out (InCare b) (Report j) e = cc
  shut_out (InCare b) Settle e = refl
  shut_out Done Treat e = refl
  shut_out Done (Report j) e = refl
  shut_out Done Settle e = refl

  abbrev told : (Lock → List Reply) → After → List Reply
  told more (Some z, l) = z ∷ more l
  told more (None, l) = []

  abbrev replies : List RoundCall → Lock → List Reply
  replies [] l = []
  replies (d ∷ ds) l = told (replies ds) (after l d)

  only : {l : Lock} {ds : List RoundCall} {zs : List Reply} → Runs m rs l ds zs → zs ≡ replies ds l
  only (ends l) = refl
  only (goes {z = z} {ds = ds} does run) = ap (λ (zs : List Reply). z ∷ zs) (only run) ∙ ap (told (replies ds)) (sym (does_so does))
  only (stops {l = l} {d = d} ds shut) = ap (told (replies ds)) (sym (shut_out l d shut))

  -- an answer behind two tests: accepted, or declined with the state given back
  either : {A S : Type 0} (x y : Bool) (s : S) (f g : RoundRefusal) (z : A) → (cond x (given_back s f) (cond y (given_back s g) (Ok z)) ≡ Ok z) ⊎ ((k : RoundRefusal) × (cond x (given_back {A = A} s f) (cond y (given_back s g) (Ok z)) ≡ given_back s k))
  either true y s f g z = inr (f, refl)
  either false true s f g z = inr (g, refl)
  either false false s f g z = inl refl

  -- what may come of a call
  abbrev Steps : Lock → RoundCall → Type 0
  Steps l d = ((z : Reply) × ((l' : Lock) × Does m rs l d z l')) ⊎ (allows l d ≡ false)

  treat_steps : (a : Arrival) (x : Result ℕ RoundRefusal) → to_name (offers m) rs a ≡ x → Steps (Waiting a) Treat
  treat_steps a (Ok r) e = inl (_, (_, treats a (treated_by a r) (ap (treated_as_named a) e)))
  treat_steps a (Err f) e = inl (_, (_, treats_not a f (ap (treated_as_named a) e)))

  report_steps : (b : Treatment) (j : ℕ) → ((to_report m b j ≡ Ok (next_arrival m b j)) ⊎ ((k : RoundRefusal) × (to_report m b j ≡ given_back b k))) → Steps (InCare b) (Report j)
  report_steps b j (inl e) = inl (_, (_, reports b j _ e))
  report_steps b j (inr s) = inl (_, (_, reports_not b j s.0 s.1))

  settle_steps : (a : Arrival) → ((to_settle m a ≡ Ok (final_total m a)) ⊎ ((k : RoundRefusal) × (to_settle m a ≡ given_back a k))) → Steps (Waiting a) Settle
  settle_steps a (inl e) = inl (_, (_, settles a _ e))
  settle_steps a (inr s) = inl (_, (_, settles_not a s.0 s.1))

  steps : (l : Lock) (d : RoundCall) → Steps l d
  steps (Waiting a) Treat = treat_steps a (to_name (offers m) rs a) refl
  steps (Waiting a) (Report j) = inr refl
  steps (Waiting a) Settle = settle_steps a (either (leb a.visit a.visits) (leb m.conditions a.condition) a Early Unknown (final_total m a))
  steps (InCare b) Treat = inr refl
  steps (InCare b) (Report j) = report_steps b j (either (is_unknown m b j) (eqb (m.share b.visit b.condition b.remedy j) 0) b Unknown Impossible (next_arrival m b j))
  steps (InCare b) Settle = inr refl
  steps Done Treat = inr refl
  steps Done (Report j) = inr refl
  steps Done Settle = inr refl

  some : (ds : List RoundCall) (l : Lock) → (zs : List Reply) × Runs m rs l ds zs
  some [] l = ([], ends l)
  some (d ∷ ds) l = elim (steps l d) [ inl s ↦ (let rest = some ds s.1.0 in (s.0 ∷ rest.0, goes s.1.1 rest.1)) | inr shut ↦ ([], stops ds shut) ]

pub runs_are_determined : RunsAreDetermined
runs_are_determined m rs l ds =
    let found = some m rs ds l in
    (found.0, (found.1, λ ws run. only m rs run ∙ sym (only m rs found.1)))
