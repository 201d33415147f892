-- What is asked of a plan, that it is then unbeaten, and when there is a policy at all.
use Rattle.std.specs.Prelude.{◌≡◌, ℕ, zero, suc, ◌+◌, ◌*◌, ◌<◌, ◌≤◌, Bool, cond, T, ◌⊎◌, List, length, slice_index}
use Rattle.model.specs.Model.{Model, Offers, offers, Lawful}
use Rattle.model.specs.Visits.{visit_after}
use Rattle.criteria.specs.Criteria.{Ops, Laws}
use Rattle.criteria.specs.Policies.{History, next_visit, Within, Choice, Policy, OffersItsOwn, onward, remedied, value, Unbeaten, tabled}

-- a choice that looks at nothing of the past but how many visits it had
abbrev pub Markov : Choice → Type 0
Markov p = (g h : History) (s : ℕ) → length g ≡ length h → p g s ≡ p h s

module _ {V A : Type 0} (o : Ops V A) (m : Model) where
  -- the choice's remedy is at least as good as each offered one, when the choice's own later values follow
  abbrev pub Greedy : ℕ → Choice → Type 0
  Greedy visits p = (h : History) (k s r : ℕ) → length h + suc k ≡ visits → Within (offers m) h → s < m.conditions → T (m.offered (next_visit h) s r) → T (o.good (value o m p (suc k) h s) (remedied o m (next_visit h) (suc k) s r (λ j. value o m p k (onward p h s) j)))

  -- the value of a rule that is given by the number of past visits and the condition, with no history
  abbrev pub ahead : (ℕ → ℕ → ℕ) → (past k s : ℕ) → V
  ahead c past zero s = o.closing (m.worth s)
  ahead c past (suc k) s = remedied o m (visit_after past) (suc k) s (c past s) (λ j. ahead c (suc past) k j)

  -- a rule that names offered remedies, each at least as good as any other offered one when the rule is kept from then on
  pub record Plan (visits : ℕ) (c : ℕ → ℕ → ℕ) : Type 0 where
    pub offers : (past s : ℕ) → past < visits → s < m.conditions → T (m.offered (visit_after past) s (c past s))
    pub best : (past k s r : ℕ) → past + suc k ≡ visits → s < m.conditions → T (m.offered (visit_after past) s r) → T (o.good (ahead c past (suc k) s) (remedied o m (visit_after past) (suc k) s r (λ j. ahead c (suc past) k j)))

-- the choice that a rule names
abbrev pub ruled : (ℕ → ℕ → ℕ) → Choice
ruled c h s = c (length h) s

-- the rule that a table names: `ruled (by_table o t)` is `tabled o t`
abbrev pub by_table : Offers → List ℕ → ℕ → ℕ → ℕ
by_table o t past s = slice_index t (past * o.conditions + s)

abbrev pub GreedyIsUnbeaten : {V A : Type 0} → Ops V A → (A → A → Type 0) → Type 0
GreedyIsUnbeaten o better = (m : Model) (visits : ℕ) (p : Choice) → Laws o better → Lawful m → visits ≤ 48 → Markov p → Greedy o m visits p → Unbeaten o m visits p

abbrev pub PlanIsUnbeaten : {V A : Type 0} → Ops V A → (A → A → Type 0) → Type 0
PlanIsUnbeaten o better = (m : Model) (visits : ℕ) (c : ℕ → ℕ → ℕ) → Laws o better → Lawful m → visits ≤ 48 → Plan o m visits c → Policy (offers m) visits (ruled c) × Unbeaten o m visits (ruled c) × ((h : History) (k s : ℕ) → value o m (ruled c) k h s ≡ ahead o m c (length h) k s)

abbrev pub TableIsUnbeaten : {V A : Type 0} → Ops V A → (A → A → Type 0) → Type 0
TableIsUnbeaten o better = (m : Model) (visits : ℕ) (t : List ℕ) → Laws o better → Lawful m → visits ≤ 48 → Plan o m visits (by_table (offers m) t) → Policy (offers m) visits (tabled (offers m) t) × Unbeaten o m visits (tabled (offers m) t)

-- a remedy is offered at each of the visits, in each condition
abbrev pub OfferedThroughout : Offers → ℕ → Type 0
OfferedThroughout o visits = (past s : ℕ) → past < visits → s < o.conditions → (r : ℕ) × (r < o.remedies) × T (o.offered (visit_after past) s r)

-- at some visit, in some condition, none is offered
abbrev pub Stuck : Offers → ℕ → Type 0
Stuck o visits = (past : ℕ) × (s : ℕ) × (past < visits) × (s < o.conditions) × ((r : ℕ) → r < o.remedies → T (o.offered (visit_after past) s r) → ⊥)

-- the least number below n that passes, or n
abbrev pub least : (ℕ → Bool) → ℕ → ℕ
least f zero = 0
least f (suc n) = cond (f 0) 0 (suc (least (λ k. f (suc k)) n))

abbrev pub first_offered : Offers → Choice
first_offered o h s = least (o.offered (next_visit h) s) o.remedies

abbrev pub StuckHasNone : Type 0
StuckHasNone = (o : Offers) (visits : ℕ) → OffersItsOwn o → Stuck o visits → (p : Choice) → Policy o visits p → ⊥

abbrev pub OfferedHasOne : Type 0
OfferedHasOne = (o : Offers) (visits : ℕ) → OfferedThroughout o visits → Policy o visits (first_offered o)

abbrev pub PolicyIffOffered : Type 0
PolicyIffOffered = (o : Offers) (visits : ℕ) → OffersItsOwn o → ((p : Choice) × Policy o visits p → OfferedThroughout o visits) × (OfferedThroughout o visits → (p : Choice) × Policy o visits p)

abbrev pub OfferedOrStuck : Type 0
OfferedOrStuck = (o : Offers) (visits : ℕ) → OfferedThroughout o visits ⊎ Stuck o visits
