-- The round of the worked lock, by the one plan that it follows.
use Rattle.std.proofs.Common.{◌≡◌, ℕ, List, [], ◌∷◌, length, ℤ, pos, Ok, Err, Result, sym, refl, ap, ◌∙◌, subst}
use Rattle.model.specs.Model.{Model, Lawful, offers}
use Rattle.criteria.specs.Mean.{at_least}
use Rattle.criteria.specs.Floor.{floor}
use Rattle.criteria.specs.Keeping.{floor_lawful}
use Rattle.checks.specs.declared.refusal.PlanRefusal.{PlanRefusal}
use Rattle.rounds.specs.States.{Arrival}
use Rattle.rounds.specs.Calls.{first_arrival, to_begin}
use Rattle.rounds.specs.declared.refusal.RoundRefusal.{RoundRefusal}
use Rattle.following.specs.declared.call.Turn.{Turn}
use Rattle.following.specs.declared.call.Reply.{Reply}
use Rattle.following.specs.declared.lock.Lock.TheVariants.{Waiting, Done}
use Rattle.following.specs.declared.follow.Unfollowed.{Unfollowed}
use Rattle.following.specs.declared.follow.Unfollowed.TheVariants.{Plan, Begin}
use Rattle.following.specs.Runs.{Runs}
use Rattle.following.specs.Runs.Runs.{ends, goes}
use Rattle.following.specs.Runs.Does.{treats, reports, reports_not, settles}
use Rattle.following.specs.Following.{calls_of, turns_of, RoundAnswers}
use Rattle.following.proofs.Determined.{runs_are_determined}
use Rattle.lock.specs.Lock.{worked_lock, floor_values, floor_remedies}
use Rattle.lock.specs.Round.{round_calls, round_replies, round_turns}
use Rattle.lock.proofs.Deciding.{plan_is}

round_runs : Runs worked_lock floor_remedies (Waiting (first_arrival 2 0)) round_calls round_replies
round_runs = goes (treats _ _ refl) (goes (reports_not _ 0 _ refl) (goes (reports _ 1 _ refl) (goes (treats _ _ refl) (goes (reports _ 3 _ refl) (goes (settles _ _ refl) (ends Done))))))

one_run : (zs : List Reply) → Runs worked_lock floor_remedies (Waiting (first_arrival 2 0)) round_calls zs → zs ≡ round_replies
one_run zs runs =
    let only = (runs_are_determined worked_lock floor_remedies (Waiting (first_arrival 2 0)) round_calls).1.1 in
    only zs runs ∙ sym (only round_replies round_runs)

abbrev zeros : List ℤ
zeros = pos 0 ∷ pos 0 ∷ pos 0 ∷ pos 0 ∷ pos 0 ∷ pos 0 ∷ pos 0 ∷ pos 0 ∷ pos 0 ∷ pos 0 ∷ pos 0 ∷ pos 0 ∷ []

abbrev no_remedies : List ℕ
no_remedies = 0 ∷ 0 ∷ 0 ∷ 0 ∷ 0 ∷ 0 ∷ 0 ∷ 0 ∷ []

-- the outcome that is told, and no other
refused : (f : PlanRefusal) → ◌≡◌ {A = Result ℕ PlanRefusal} (Err f) (Ok 8) → ⊥
refused f e = subst told e tt
  where
    told : Result ℕ PlanRefusal → Type 0
    told (Ok n) = ⊥
    told (Err g) = Unit {0}

unbegun : (f : RoundRefusal) → to_begin (offers worked_lock) 2 0 ≡ Err f → ⊥
unbegun f e = subst told e tt
  where
    told : Result Arrival RoundRefusal → Type 0
    told (Ok a) = Unit {0}
    told (Err g) = ⊥

module _ (lawful : Lawful worked_lock) (vs : List ℤ) (rs : List ℕ) (ts ts' : List Turn) (calls : calls_of ts ≡ round_calls) where
  led : (a : Result ℕ Unfollowed) → RoundAnswers worked_lock 2 0 a zeros vs no_remedies rs ts ts' → (a ≡ Ok 6) × (ts' ≡ round_turns)
  led (Ok n) (plan, round) =
      let tables = plan_is floor at_least floor_lawful worked_lock 2 lawful zeros floor_values no_remedies floor_remedies tt (record { long = refl; past = refl }) (record { long = refl; past = refl }) (Ok 8) vs rs plan in
      let runs = subst (λ r. Runs worked_lock r (Waiting (first_arrival 2 0)) (calls_of ts) round.leads.replies) tables.2 round.leads.runs in
      let replies = one_run round.leads.replies (subst (λ d. Runs worked_lock floor_remedies (Waiting (first_arrival 2 0)) d round.leads.replies) calls runs) in
      (ap Ok (sym round.leads.count ∙ ap length replies), round.leads.turns ∙ (λ i. turns_of (calls i) (replies i)))
  led (Err (Plan f)) (plan, kept) = absurd (refused f (plan_is floor at_least floor_lawful worked_lock 2 lawful zeros floor_values no_remedies floor_remedies tt (record { long = refl; past = refl }) (record { long = refl; past = refl }) (Err f) vs rs plan).0)
  led (Err (Begin f)) (plan, not_begun, kept) = absurd (unbegun f not_begun)

-- the same of a book that means what the worked lock means
pub led_as : (m : Model) → Lawful m → m ≡ worked_lock → (vs : List ℤ) (rs : List ℕ) (ts ts' : List Turn) → calls_of ts ≡ round_calls → (a : Result ℕ Unfollowed) → RoundAnswers m 2 0 a zeros vs no_remedies rs ts ts' → (a ≡ Ok 6) × (ts' ≡ round_turns)
led_as m lawful same vs rs ts ts' calls a round = led (subst Lawful same lawful) vs rs ts ts' calls a (subst (λ x. RoundAnswers x 2 0 a zeros vs no_remedies rs ts ts') same round)
