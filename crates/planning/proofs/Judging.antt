-- A plan that is judged gives its own values.
use Rattle.std.proofs.Common.{◌≡◌, ℕ, suc, ◌+◌, ◌-◌, ◌*◌, ◌<◌, ◌≤◌, T, List, length, get_or, take, pos, Ok, Err, Result, sym, ap, ◌∙◌, subst, ⊎_elim, arith}
use Rattle.model.specs.Model.{Model, Lawful, offers}
use Rattle.criteria.specs.Criteria.{Ops}
use Rattle.criteria.specs.Policies.{Policy, tabled}
use Rattle.checks.specs.Places.{named, WellNamed}
use Rattle.checks.specs.Acceptance.{JudgeDeclined}
use Rattle.checks.specs.declared.refusal.PlanRefusal.{PlanRefusal}
use Rattle.checks.specs.declared.refusal.PlanRefusal.TheVariants.{Visits, Short, Stuck, Uneven, Fine, Rule}
use Rattle.planning.specs.Plans.{PlanAnswers}
use Rattle.planning.specs.Judgements.{JudgeAnswers}
use Rattle.planning.specs.Agreeing.{JudgingAPlan}
use Rattle.criteria.proofs.Histories.{long, long_length, long_within}
use Rattle.planning.proofs.Agreeing.{take_rows, entry_value}

-- a policy that a table names has an offered remedy at every place
pub well_named : (m : Model) (H : ℕ) (rs : List ℕ) → Lawful m → Policy (offers m) H (tabled (offers m) rs) → WellNamed (offers m) rs H
well_named m H rs lawful policy n s place =
    let e = long_length (n - 1) in
    let whole : suc (n - 1) ≡ n = let l = place.from in omega arith in
    let l : length (long (n - 1)) < H = let a = place.from in let b = place.to in omega arith in
    subst (λ (x : ℕ). T (m.offered x s (named (offers m) rs n s))) whole
    (subst (λ (x : ℕ). T (m.offered (suc x) s (get_or rs (x * m.conditions + s) 0))) e (policy (long (n - 1)) s l (long_within (offers m) lawful.some_condition lawful.some_remedy (n - 1)) place.condition))

module _ {V A : Type 0} (o : Ops V A) (m : Model) (H n : ℕ) (vs vs' ws ws' : List V) (rs rs' : List ℕ) (lawful : Lawful m) (plan : PlanAnswers o m H (Ok n) vs vs' rs rs') (room : (H + 1) * m.conditions ≤ length ws) where
  not_declined : (f : PlanRefusal) → JudgeDeclined m H (length ws) rs' f → ⊥
  not_declined Visits why = ⊎_elim (λ l. omega (arith, plan.1.in_order.some)) (λ l. omega (arith, plan.1.in_order.few)) why
  not_declined Short why = ⊎_elim (λ l. omega arith) (λ l. omega (arith, plan.2.remedies_kept.long, plan.1.in_order.remedies_room)) why.which
  not_declined (Stuck k s) why = why
  not_declined (Uneven k s r) (order, well, why) = why.odd.1 (plan.1.evenly k s r why.place why.odd.0)
  not_declined Fine (order, well, even, large) = large plan.1.fitting
  not_declined (Rule k s r) (order, why) = why.not_offered (subst (λ (x : ℕ). T (m.offered k s x)) (sym why.names) (well_named m H rs' lawful plan.2.policy k s why.place))

  judged : (a : Result ℕ PlanRefusal) → JudgeAnswers o m H a ws ws' rs' → (a ≡ Ok n) × (take ((H + 1) * m.conditions) ws' ≡ take ((H + 1) * m.conditions) vs')
  judged (Err f) (one, why, kept) = absurd (not_declined f why)
  judged (Ok x) (count, taken, done) = (
    ap Ok (count ∙ sym plan.0),
    take_rows (o.closing (pos 0)) (H + 1) m.conditions ws' vs' lawful.some_condition (omega (arith, done.values_kept.long)) (omega (arith, plan.2.values_kept.long, plan.1.in_order.values_room))
        (λ q s ql sl.
        let l : q ≤ H = omega arith in
        entry_value o m H lawful (tabled (offers m) rs') ws' done.values q s l sl ∙ sym (entry_value o m H lawful (tabled (offers m) rs') vs' plan.2.values q s l sl)),
  )

pub judging_a_plan : {V A : Type 0} (o : Ops V A) → JudgingAPlan o
judging_a_plan o m H n vs vs' ws ws' rs rs' a lawful plan room = judged o m H n vs vs' ws ws' rs rs' lawful plan room a
