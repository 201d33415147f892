-- What a book means: its sizes and its answers.
use Rattle.std.specs.Prelude.{◌≡◌, ℕ, zero, suc, ◌+◌, ◌<◌, ◌≤◌, Bool, T, ℤ, pos, negsuc, ◌≤ℤ◌}

-- the sizes, and which remedies are offered
pub record Offers : Type 0 where
  pub conditions : ℕ
  pub remedies : ℕ
  -- visit, condition, remedy
  pub offered : ℕ → ℕ → ℕ → Bool

-- conditions and remedies count from 0, visits from 1
pub record Model : Type 0 where
  pub conditions : ℕ
  pub remedies : ℕ
  -- the whole of which a share is a part: a next condition of share x comes about x times in `parts`
  pub parts : ℕ
  -- visit, condition, remedy
  pub offered : ℕ → ℕ → ℕ → Bool
  -- visit, condition, remedy, next condition
  pub share : ℕ → ℕ → ℕ → ℕ → ℕ
  pub amount : ℕ → ℕ → ℕ → ℕ → ℤ
  -- what a condition is worth when the last visit is over
  pub worth : ℕ → ℤ

abbrev pub offers : Model → Offers
offers m = record { conditions = m.conditions; remedies = m.remedies; offered = m.offered }

-- an amount or a worth as a book may hold it
pub record Money (z : ℤ) : Type 0 where
  pub low : negsuc 999999999 ≤ℤ z
  pub high : z ≤ℤ pos 1000000000

-- a visit, a condition and a remedy that a book has
pub record Inside (o : Offers) (n s r : ℕ) : Type 0 where
  pub first_visit : 1 ≤ n
  pub last_visit : n ≤ 48
  pub some_condition : s < o.conditions
  pub some_remedy : r < o.remedies

-- what every book keeps
pub record Lawful (m : Model) : Type 0 where
  pub some_condition : 1 ≤ m.conditions
  pub few_conditions : m.conditions ≤ 32
  pub some_remedy : 1 ≤ m.remedies
  pub few_remedies : m.remedies ≤ 8
  pub some_parts : 1 ≤ m.parts
  pub few_parts : m.parts ≤ 1000
  pub share_fits : (n s r j : ℕ) → m.share n s r j ≤ m.parts
  pub amount_fits : (n s r j : ℕ) → Money (m.amount n s r j)
  pub worth_fits : (s : ℕ) → Money (m.worth s)
  -- outside the sizes, and at a visit that is none of 1 to 48, nothing is offered and every number is 0
  pub offered_inside : (n s r : ℕ) → T (m.offered n s r) → Inside (offers m) n s r
  pub share_inside : (n s r j : ℕ) → 0 < m.share n s r j → Inside (offers m) n s r × (j < m.conditions)
  pub amount_inside : (n s r j : ℕ) → ¬ (m.amount n s r j ≡ pos 0) → Inside (offers m) n s r × (j < m.conditions)
  pub worth_inside : (s : ℕ) → ¬ (m.worth s ≡ pos 0) → s < m.conditions

-- the sum of the shares of the first j next conditions
abbrev pub weight : Model → (n s r j : ℕ) → ℕ
weight m n s r zero = 0
weight m n s r (suc j) = weight m n s r j + m.share n s r j
