-- What planning answers, and what it leaves in the tables.
use Rattle.std.specs.Prelude.{◌≡◌, ℕ, suc, ◌+◌, ◌*◌, ◌<◌, T, List, [], ◌∷◌, length, Ok, Err, Result}
use Rattle.model.specs.Model.{Model, offers}
use Rattle.criteria.specs.Criteria.{Ops}
use Rattle.criteria.specs.Policies.{History, Within, Choice, Policy, next_visit, onward, remedied, value, Unbeaten, tabled}
use Rattle.checks.specs.Refusals.{refusal_number, OneOf}
use Rattle.checks.specs.Acceptance.{InOrder, PlanAccepted, PlanDeclined}
use Rattle.checks.specs.declared.refusal.PlanRefusal.{PlanRefusal}
use Rattle.checks.specs.declared.refusal.PlanRefusal.TheVariants.{Stuck}
use Rattle.planning.specs.Choosing.{Precedes}
use Rattle.model.specs.Tables.{KeptPast}
use Rattle.planning.specs.Tables.{at}

module _ {V A : Type 0} (o : Ops V A) (m : Model) (H : ℕ) where
  -- the table holds the values of the choice at every visit, after any history, and the closing values after the last
  abbrev pub ValuesOf : Choice → List V → Type 0
  ValuesOf p vs = (h : History) (k s : ℕ) → length h + k ≡ H → Within (offers m) h → s < m.conditions → at o vs (length h * m.conditions + s) ≡ value o m p k h s

  -- no offered remedy that precedes the choice's is as good, when the choice is kept from then on
  abbrev pub Lowest : Choice → Type 0
  Lowest p = (h : History) (k s r : ℕ) → length h + suc k ≡ H → Within (offers m) h → s < m.conditions → Precedes r (p h s) → T (m.offered (next_visit h) s r) → T (o.good (remedied o m (next_visit h) (suc k) s r (λ j. value o m p k (onward p h s) j)) (value o m p (suc k) h s)) → ⊥

  -- what an accepted plan leaves: an unbeaten policy of lowest numbers, and its values
  pub record Planned (values_before values_after : List V) (remedies_before remedies_after : List ℕ) : Type 0 where
    pub policy : Policy (offers m) H (tabled (offers m) remedies_after)
    pub unbeaten : Unbeaten o m H (tabled (offers m) remedies_after)
    pub lowest : Lowest (tabled (offers m) remedies_after)
    pub values : ValuesOf (tabled (offers m) remedies_after) values_after
    pub values_kept : KeptPast ((H + 1) * m.conditions) values_before values_after
    pub remedies_kept : KeptPast (H * m.conditions) remedies_before remedies_after

  -- the whole promise of a plan: the answer, and both tables before and after
  abbrev pub PlanAnswers : (answer : Result ℕ PlanRefusal) (vs vs' : List V) (rs rs' : List ℕ) → Type 0
  PlanAnswers (Ok n) vs vs' rs rs' = (n ≡ H * m.conditions) × PlanAccepted m H (length vs) (length rs) × Planned vs vs' rs rs'
  PlanAnswers (Err f) vs vs' rs rs' = OneOf (1 ∷ 2 ∷ 7 ∷ 8 ∷ 9 ∷ []) (refusal_number f) × PlanDeclined m H (length vs) (length rs) f × (vs' ≡ vs) × (rs' ≡ rs)

-- with visits and tables in order, declined as stuck exactly where no policy can be written
pub record StuckExactly (m : Model) (H v w : ℕ) (answer : Result ℕ PlanRefusal) : Type 0 where
  pub none : InOrder (offers m) H v w → ((p : Choice) → Policy (offers m) H p → ⊥) → (n : ℕ) × ((s : ℕ) × (answer ≡ Err (Stuck n s)))
  pub only : InOrder (offers m) H v w → (n s : ℕ) → answer ≡ Err (Stuck n s) → (p : Choice) → Policy (offers m) H p → ⊥
