-- What stands behind the values of an accepted plan or judgement by a criterion of totals.
use Rattle.std.proofs.Common.{◌≡◌, ℕ, suc, ◌+◌, ◌-◌, ◌*◌, T, List, length, get_or, ℤ, OnOk, Ok, Err, Result, subst, arith}
use Rattle.model.specs.Model.{Model, offers, Lawful}
use Rattle.criteria.specs.Criteria.{Ops}
use Rattle.criteria.specs.Policies.{Policy, tabled}
use Rattle.checks.specs.Places.{WellNamed}
use Rattle.checks.specs.declared.refusal.PlanRefusal.{PlanRefusal}
use Rattle.planning.specs.Plans.{PlanAnswers}
use Rattle.planning.specs.Judgements.{JudgeAnswers}
use Rattle.totals.specs.Laws.{ValuesAreTotals, UnbeatenIsGreatest}

-- a table that names offered remedies is a policy
named_policy : (m : Model) (H : ℕ) (rs : List ℕ) → WellNamed (offers m) rs H → Policy (offers m) H (tabled (offers m) rs)
named_policy m H rs named h s l w i =
    let less : suc (length h) - 1 ≡ length h = omega arith in
    subst (λ (x : ℕ). T (m.offered (suc (length h)) s (get_or rs (x * m.conditions + s) 0))) less (named (suc (length h)) s (record { from = omega arith; to = omega arith; condition = i }))

module _ (o : Ops ℤ ℤ) (totals : Model → ℕ → List ℕ → List ℤ → Type 0) (values_are_totals : ValuesAreTotals o totals) (m : Model) (H : ℕ) (lawful : Lawful m) where
  pub planned_totals : (r : Result ℕ PlanRefusal) (vs vs' : List ℤ) (rs rs' : List ℕ) → PlanAnswers o m H r vs vs' rs rs' → OnOk r (totals m H rs' vs')
  planned_totals (Ok n) vs vs' rs rs' (count, taken, planned) =
      values_are_totals m H rs' vs' (record { lawful = lawful; few = taken.in_order.few; evenly = taken.evenly; fitting = taken.fitting; policy = planned.policy }) planned.values
  planned_totals (Err f) vs vs' rs rs' a = tt

  pub judged_totals : (r : Result ℕ PlanRefusal) (vs vs' : List ℤ) (rs : List ℕ) → JudgeAnswers o m H r vs vs' rs → OnOk r (totals m H rs vs')
  judged_totals (Ok n) vs vs' rs (count, taken, judged) =
      values_are_totals m H rs vs' (record { lawful = lawful; few = taken.in_order.few; evenly = taken.evenly; fitting = taken.fitting; policy = named_policy m H rs taken.well_named }) judged.values
  judged_totals (Err f) vs vs' rs a = tt

module _ (o : Ops ℤ ℤ) (greatest : Model → ℕ → List ℕ → Type 0) (unbeaten_is_greatest : UnbeatenIsGreatest o greatest) (m : Model) (H : ℕ) (lawful : Lawful m) where
  pub planned_greatest : (r : Result ℕ PlanRefusal) (vs vs' : List ℤ) (rs rs' : List ℕ) → PlanAnswers o m H r vs vs' rs rs' → OnOk r (greatest m H rs')
  planned_greatest (Ok n) vs vs' rs rs' (count, taken, planned) =
      unbeaten_is_greatest m H rs' (record { lawful = lawful; few = taken.in_order.few; evenly = taken.evenly; fitting = taken.fitting; policy = planned.policy }) planned.unbeaten
  planned_greatest (Err f) vs vs' rs rs' a = tt
