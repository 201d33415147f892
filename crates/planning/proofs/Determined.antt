-- What a plan and a judgement answer is determined by what was brought.
use Rattle.std.proofs.Common.{◌≡◌, ℕ, ◌+◌, ◌≤◌, List, ◌++◌, length, take, pos, Ok, Err, Result, sym, ◌∙◌, subst, arith, take-append-drop}
use Rattle.model.specs.Model.{Model, Lawful, offers}
use Rattle.criteria.specs.Criteria.{Ops}
use Rattle.criteria.specs.Policies.{tabled}
use Rattle.checks.specs.declared.refusal.PlanRefusal.{PlanRefusal}
use Rattle.model.specs.Tables.{KeptPast}
use Rattle.planning.specs.Plans.{PlanAnswers}
use Rattle.planning.specs.Judgements.{JudgeAnswers}
use Rattle.planning.specs.Agreeing.{PlansAreDetermined, JudgementsAreDetermined}
use Rattle.planning.proofs.Agreeing.{plans_agree_lem, take_rows, entry_value}
use Rattle.planning.proofs.Refused.{PlanView, one_plan, seen_plan, JudgeView, one_judge, seen_judge}
use Rattle.planning.proofs.Refused.PlanView.{at_accepted_plan}
use Rattle.planning.proofs.Refused.JudgeView.{at_accepted_judge}

-- a table kept past its first entries, with the same first entries
pub whole_table : {V : Type 0} (n : ℕ) (vs xs ys : List V) → KeptPast n vs xs → KeptPast n vs ys → take n xs ≡ take n ys → xs ≡ ys
whole_table n vs xs ys a b e = sym (take-append-drop n xs) ∙ (λ i. e i ++ (a.past ∙ sym b.past) i) ∙ take-append-drop n ys

module _ {V A : Type 0} (o : Ops V A) (m : Model) (H : ℕ) (lawful : Lawful m) where
  pub plan_seen : (vs vs' : List V) (rs rs' : List ℕ) (a : Result ℕ PlanRefusal) → PlanAnswers o m H a vs vs' rs rs' → PlanView m H (length vs) (length rs) a
  plan_seen vs vs' rs rs' (Ok n) (count, taken, plan) = at_accepted_plan n count taken.in_order taken.openly taken.evenly taken.fitting
  plan_seen vs vs' rs rs' (Err f) x = seen_plan m H (length vs) (length rs) f x.1

  plan_tables : (vs vs' ws' : List V) (rs rs' qs' : List ℕ) (a : Result ℕ PlanRefusal) → PlanAnswers o m H a vs vs' rs rs' → PlanAnswers o m H a vs ws' rs qs' → (vs' ≡ ws') × (rs' ≡ qs')
  plan_tables vs vs' ws' rs rs' qs' (Ok n) x y =
      let all = plans_agree_lem o m H n n vs vs' vs ws' rs rs' rs qs' lawful x y in
      (whole_table _ vs vs' ws' x.2.values_kept y.2.values_kept all.2, whole_table _ rs rs' qs' x.2.remedies_kept y.2.remedies_kept all.1)
  plan_tables vs vs' ws' rs rs' qs' (Err f) x y = (x.2 ∙ sym y.2, x.3 ∙ sym y.3)

  judge_seen : (vs vs' : List V) (rs : List ℕ) (a : Result ℕ PlanRefusal) → JudgeAnswers o m H a vs vs' rs → JudgeView m H (length vs) rs a
  judge_seen vs vs' rs (Ok n) (count, taken, done) = at_accepted_judge n count taken.in_order taken.well_named taken.evenly taken.fitting
  judge_seen vs vs' rs (Err f) x = seen_judge m H (length vs) rs f x.1

  judge_tables : (vs vs' ws' : List V) (rs : List ℕ) (a : Result ℕ PlanRefusal) → JudgeAnswers o m H a vs vs' rs → JudgeAnswers o m H a vs ws' rs → vs' ≡ ws'
  judge_tables vs vs' ws' rs (Ok n) (count, taken, done) (count', taken', done') =
      whole_table _ vs vs' ws' done.values_kept done'.values_kept (take_rows (o.closing (pos 0)) (H + 1) m.conditions vs' ws' lawful.some_condition (omega (arith, done.values_kept.long, taken.in_order.values_room)) (omega (arith, done'.values_kept.long, taken.in_order.values_room))
      (λ q s ql sl. let l : q ≤ H = omega arith in entry_value o m H lawful (tabled (offers m) rs) vs' done.values q s l sl ∙ sym (entry_value o m H lawful (tabled (offers m) rs) ws' done'.values q s l sl)))
  judge_tables vs vs' ws' rs (Err f) x y = x.2 ∙ sym y.2

pub plans_are_determined : {V A : Type 0} (o : Ops V A) → PlansAreDetermined o
plans_are_determined o m H vs vs' ws' rs rs' qs' a b lawful x y =
    let e = one_plan m H (length vs) (length rs) (plan_seen o m H lawful vs vs' rs rs' a x) (plan_seen o m H lawful vs ws' rs qs' b y) in
    let both = plan_tables o m H lawful vs vs' ws' rs rs' qs' a x (subst (λ (z : Result ℕ PlanRefusal). PlanAnswers o m H z vs ws' rs qs') (sym e) y) in
    (e, both.0, both.1)

pub judgements_are_determined : {V A : Type 0} (o : Ops V A) → JudgementsAreDetermined o
judgements_are_determined o m H vs vs' ws' rs a b lawful x y =
    let e = one_judge m H (length vs) rs (judge_seen o m H lawful vs vs' rs a x) (judge_seen o m H lawful vs ws' rs b y) in
    (e, judge_tables o m H lawful vs vs' ws' rs a x (subst (λ (z : Result ℕ PlanRefusal). JudgeAnswers o m H z vs ws' rs) (sym e) y))
