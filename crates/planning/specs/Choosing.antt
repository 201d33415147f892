-- The best of the remedies that are offered at a visit in a condition.
use Rattle.std.specs.Prelude.{◌≡◌, ℕ, ◌<◌, cond, T, Some, None, Option}
use Rattle.model.specs.Model.{Model}
use Rattle.criteria.specs.Criteria.{Ops}
use Rattle.criteria.specs.Policies.{remedied}

-- the order of remedies: of equally good ones the first is taken
abbrev pub Precedes : ℕ → ℕ → Type 0
Precedes r r' = r < r'

-- among the remedies below `count`, with the values `later` to follow: the remedy r is offered and has the value v,
-- which is at least as good as that of each offered one, and better than that of each that precedes it
pub record Best {V A : Type 0} (o : Ops V A) (m : Model) (visit left s : ℕ) (later : ℕ → V) (count r : ℕ) (v : V) : Type 0 where
  pub within : r < count
  pub offer : T (m.offered visit s r)
  pub valued : v ≡ remedied o m visit left s r later
  pub over : (q : ℕ) → q < count → T (m.offered visit s q) → T (o.good v (remedied o m visit left s q later))
  pub first : (q : ℕ) → Precedes q r → T (m.offered visit s q) → T (o.good (remedied o m visit left s q later) v) → ⊥

-- no remedy below `count` is offered
abbrev pub NoneBelow : Model → (visit s count : ℕ) → Type 0
NoneBelow m visit s count = (q : ℕ) → q < count → T (m.offered visit s q) → ⊥

-- what is kept of the remedy and value found so far and one more: what was found, unless it is less good
abbrev pub kept_of : {V A : Type 0} → Ops V A → Option (ℕ × V) → ℕ × V → ℕ × V
kept_of o None more = more
kept_of o (Some found) more = cond (o.good found.1 more.1) found more
