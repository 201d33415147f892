-- What judging a table of remedies answers, and what it leaves in the table of values.
use Rattle.std.specs.Prelude.{◌≡◌, ℕ, ◌+◌, ◌*◌, List, [], ◌∷◌, length, Ok, Err, Result}
use Rattle.model.specs.Model.{Model, offers}
use Rattle.criteria.specs.Criteria.{Ops}
use Rattle.criteria.specs.Policies.{tabled}
use Rattle.checks.specs.Refusals.{refusal_number, OneOf}
use Rattle.checks.specs.Acceptance.{JudgeAccepted, JudgeDeclined}
use Rattle.checks.specs.declared.refusal.PlanRefusal.{PlanRefusal}
use Rattle.model.specs.Tables.{KeptPast}
use Rattle.planning.specs.Plans.{ValuesOf}

module _ {V A : Type 0} (o : Ops V A) (m : Model) (H : ℕ) where
  -- what an accepted judgement leaves: the values of the policy that the table names
  pub record Judged (rs : List ℕ) (values_before values_after : List V) : Type 0 where
    pub values : ValuesOf o m H (tabled (offers m) rs) values_after
    pub values_kept : KeptPast ((H + 1) * m.conditions) values_before values_after

  -- the whole promise of a judgement: the answer, and the table of values before and after
  abbrev pub JudgeAnswers : (answer : Result ℕ PlanRefusal) (vs vs' : List V) (rs : List ℕ) → Type 0
  JudgeAnswers (Ok n) vs vs' rs = (n ≡ H * m.conditions) × JudgeAccepted m H (length vs) rs × Judged rs vs vs'
  JudgeAnswers (Err f) vs vs' rs = OneOf (1 ∷ 2 ∷ 10 ∷ 8 ∷ 9 ∷ []) (refusal_number f) × JudgeDeclined m H (length vs) rs f × (vs' ≡ vs)
