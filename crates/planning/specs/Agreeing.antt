-- What the answers of planning and judging leave open: nothing.
use Rattle.std.specs.Prelude.{◌≡◌, ℕ, ◌+◌, ◌*◌, ◌≤◌, List, length, take, Ok, Result}
use Rattle.model.specs.Model.{Model, Lawful}
use Rattle.criteria.specs.Criteria.{Ops}
use Rattle.checks.specs.declared.refusal.PlanRefusal.{PlanRefusal}
use Rattle.planning.specs.Plans.{PlanAnswers, StuckExactly}
use Rattle.planning.specs.Judgements.{JudgeAnswers}

module _ {V A : Type 0} (o : Ops V A) where
  -- judging a plan's remedies is accepted and gives the planned values
  abbrev pub JudgingAPlan : Type 0
  JudgingAPlan = (m : Model) (H n : ℕ) (vs vs' ws ws' : List V) (rs rs' : List ℕ) (a : Result ℕ PlanRefusal) → Lawful m → PlanAnswers o m H (Ok n) vs vs' rs rs' → (H + 1) * m.conditions ≤ length ws → JudgeAnswers o m H a ws ws' rs' → (a ≡ Ok n) × (take ((H + 1) * m.conditions) ws' ≡ take ((H + 1) * m.conditions) vs')

  -- two accepted plans of one book by one criterion agree on every entry that they fill
  abbrev pub PlansAgree : Type 0
  PlansAgree = (m : Model) (H n n' : ℕ) (vs vs' ws ws' : List V) (rs rs' qs qs' : List ℕ) → Lawful m → PlanAnswers o m H (Ok n) vs vs' rs rs' → PlanAnswers o m H (Ok n') ws ws' qs qs' → (n ≡ n') × (take (H * m.conditions) rs' ≡ take (H * m.conditions) qs') × (take ((H + 1) * m.conditions) vs' ≡ take ((H + 1) * m.conditions) ws')

  -- what a plan answers says by itself that it is declined as stuck exactly where no policy can be written
  abbrev pub PlansAreStuckExactly : Type 0
  PlansAreStuckExactly = (m : Model) (H : ℕ) (vs vs' : List V) (rs rs' : List ℕ) (a : Result ℕ PlanRefusal) → Lawful m → PlanAnswers o m H a vs vs' rs rs' → StuckExactly m H (length vs) (length rs) a

  -- the answer of a plan, and both tables whole, follow from what was brought
  abbrev pub PlansAreDetermined : Type 0
  PlansAreDetermined = (m : Model) (H : ℕ) (vs vs' ws' : List V) (rs rs' qs' : List ℕ) (a b : Result ℕ PlanRefusal) → Lawful m → PlanAnswers o m H a vs vs' rs rs' → PlanAnswers o m H b vs ws' rs qs' → (a ≡ b) × (vs' ≡ ws') × (rs' ≡ qs')

  -- so does the answer of a judgement
  abbrev pub JudgementsAreDetermined : Type 0
  JudgementsAreDetermined = (m : Model) (H : ℕ) (vs vs' ws' : List V) (rs : List ℕ) (a b : Result ℕ PlanRefusal) → Lawful m → JudgeAnswers o m H a vs vs' rs → JudgeAnswers o m H b vs ws' rs → (a ≡ b) × (vs' ≡ ws')
