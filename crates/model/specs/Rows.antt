-- A row of a book: what may follow a remedy in a condition at a visit. And visits at which a book answers alike.
use Rattle.std.specs.Prelude.{◌≡◌, ℕ, zero, suc, cond, List, [], ◌∷◌, ◌++◌, nat_lt}
use Rattle.model.specs.Model.{Model}
use Rattle.model.specs.declared.row.Outcome.{Outcome}

-- a next condition with its share and its amount
abbrev pub outcome : Model → (n s r j : ℕ) → Outcome
outcome m n s r j = record { next = j; share = m.share n s r j; amount = m.amount n s r j }

-- those of share above 0 among the first j next conditions, in rising order
abbrev pub outcomes : Model → (n s r j : ℕ) → List Outcome
outcomes m n s r zero = []
outcomes m n s r (suc j) = cond (nat_lt 0 (m.share n s r j)) (outcomes m n s r j ++ (outcome m n s r j ∷ [])) (outcomes m n s r j)

-- the book answers the same at both visits
pub record Alike (m : Model) (n n' : ℕ) : Type 0 where
  pub offered : (s r : ℕ) → m.offered n s r ≡ m.offered n' s r
  pub share : (s r j : ℕ) → m.share n s r j ≡ m.share n' s r j
  pub amount : (s r j : ℕ) → m.amount n s r j ≡ m.amount n' s r j
