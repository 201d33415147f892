-- A plan is declined as stuck exactly where no policy can be written.
use Rattle.std.proofs.Common.{◌≡◌, ℕ, suc, ◌-◌, ◌<◌, T, List, length, Ok, Err, Result, refl, subst, ⊎_elim, arith}
use Rattle.model.specs.Model.{Model, Lawful, offers}
use Rattle.model.specs.Visits.{Open}
use Rattle.criteria.specs.Criteria.{Ops}
use Rattle.criteria.specs.Policies.{Choice, Policy, tabled}
use Rattle.checks.specs.Acceptance.{InOrder, PlanDeclined}
use Rattle.checks.specs.declared.refusal.PlanRefusal.{PlanRefusal}
use Rattle.checks.specs.declared.refusal.PlanRefusal.TheVariants.{Visits, Short, Stuck, Uneven, Fine, Rule}
use Rattle.criteria.specs.Optimal.{OfferedThroughout, first_offered}
use Rattle.planning.specs.Plans.{PlanAnswers}
use Rattle.planning.specs.Agreeing.{PlansAreStuckExactly}
use Rattle.criteria.proofs.Histories.{long, long_length, long_within}
use Rattle.criteria.proofs.Offered.{offered_has_one}

offered_of : (m : Model) (H : ℕ) → Lawful m → Open (offers m) H → OfferedThroughout (offers m) H
offered_of m H lawful opens past s l i =
    let found = opens (suc past) s (record { from = omega arith; to = omega arith; condition = i }) in
    (found.0, (lawful.offered_inside _ s _ found.1).some_remedy, found.1)

module _ {V A : Type 0} (o : Ops V A) (m : Model) (H : ℕ) (vs vs' : List V) (rs rs' : List ℕ) (lawful : Lawful m) where
  none_refused : (f : PlanRefusal) → PlanDeclined m H (length vs) (length rs) f → InOrder (offers m) H (length vs) (length rs) → ((p : Choice) → Policy (offers m) H p → ⊥) → (n : ℕ) × ((s : ℕ) × (◌≡◌ {A = Result ℕ PlanRefusal} (Err f) (Err (Stuck n s))))
  none_refused Visits why order none = absurd (⊎_elim (λ l. omega (arith, order.some)) (λ l. omega (arith, order.few)) why)
  none_refused Short why order none = absurd (⊎_elim (λ l. omega (arith, order.values_room)) (λ l. omega (arith, order.remedies_room)) why.which)
  none_refused (Stuck n s) why order none = (n, (s, refl))
  none_refused (Uneven n s r) why order none = absurd (none (first_offered (offers m)) (offered_has_one (offers m) H (offered_of m H lawful why.1)))
  none_refused Fine why order none = absurd (none (first_offered (offers m)) (offered_has_one (offers m) H (offered_of m H lawful why.1)))
  none_refused (Rule n s r) why order none = absurd why

  none_answered : (a : Result ℕ PlanRefusal) → PlanAnswers o m H a vs vs' rs rs' → InOrder (offers m) H (length vs) (length rs) → ((p : Choice) → Policy (offers m) H p → ⊥) → (n : ℕ) × ((s : ℕ) × (a ≡ Err (Stuck n s)))
  none_answered (Ok n) plan order none = absurd (none (tabled (offers m) rs') plan.2.policy)
  none_answered (Err f) plan order none = none_refused f plan.1 order none

  only_answered : (a : Result ℕ PlanRefusal) → PlanAnswers o m H a vs vs' rs rs' → (n s : ℕ) → a ≡ Err (Stuck n s) → (p : Choice) → Policy (offers m) H p → ⊥
  only_answered a plan n s e p policy =
      let why = (subst (λ (x : Result ℕ PlanRefusal). PlanAnswers o m H x vs vs' rs rs') e plan).1 in
      let l = long_length (n - 1) in
      let from = why.1.place.from in
      let to = why.1.place.to in
      let short_of : length (long (n - 1)) < H = omega arith in
      let whole : suc (length (long (n - 1))) ≡ n = omega arith in
      why.1.bare (p (long (n - 1)) s) (subst (λ (x : ℕ). T (m.offered x s (p (long (n - 1)) s))) whole (policy (long (n - 1)) s short_of (long_within (offers m) lawful.some_condition lawful.some_remedy (n - 1)) why.1.place.condition))

pub plans_are_stuck_exactly : {V A : Type 0} (o : Ops V A) → PlansAreStuckExactly o
plans_are_stuck_exactly o m H vs vs' rs rs' a lawful plan = record {
  none = none_answered o m H vs vs' rs rs' lawful a plan;
  only = λ order. only_answered o m H vs vs' rs rs' lawful a plan;
}
