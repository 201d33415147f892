-- The number limit by the greatest size in the book: P is reached, and it alone decides.
use Rattle.std.specs.Prelude.{◌≡◌, ℕ, zero, suc, ◌<◌, max, cond, T, ◌⊎◌, List, fold, nat_lt, unsigned_abs}
use Rattle.model.specs.Model.{Model, Lawful, offers}
use Rattle.model.specs.Visits.{visit_after, Place, Bounds, WithinLimit, Fits}
use Rattle.model.specs.declared.row.Outcome.{Outcome}

-- an amount of share above 0 under an offered remedy at the visits has this size
pub record AmountOfSize (m : Model) (H P : ℕ) : Type 0 where
  pub visit : ℕ
  pub condition : ℕ
  pub remedy : ℕ
  pub next : ℕ
  pub place : Place (offers m) H visit condition
  pub may_be_given : T (m.offered visit condition remedy)
  pub may_come : 0 < m.share visit condition remedy next
  pub sized : unsigned_abs (m.amount visit condition remedy next) ≡ P

-- P is 1, or the size of a worth, or of such an amount
abbrev pub Reached : Model → (H P : ℕ) → Type 0
Reached m H P = (P ≡ 1) ⊎ (((s : ℕ) × (s < m.conditions) × (unsigned_abs (m.worth s) ≡ P)) ⊎ AmountOfSize m H P)

-- the least bound: a bound that is reached
pub record Peak (m : Model) (H P : ℕ) : Type 0 where
  pub bounds : Bounds m H P
  pub reached : Reached m H P

-- the largest f j with j below n, or 0
abbrev pub most : ℕ → (ℕ → ℕ) → ℕ
most zero f = 0
most (suc n) f = max (most n f) (f n)

-- the largest size of the amounts of some outcomes, or 0
abbrev pub greatest_size : List Outcome → ℕ
greatest_size xs = fold (λ top x. max top (unsigned_abs x.amount)) 0 xs

module _ (m : Model) where
  -- the largest size of a worth
  abbrev pub largest_worth : ℕ
  largest_worth = most m.conditions (λ s. unsigned_abs (m.worth s))

  -- of an amount of share above 0, at a visit, in a condition, under a remedy
  abbrev pub largest_under : (n s r : ℕ) → ℕ
  largest_under n s r = most m.conditions (λ j. cond (nat_lt 0 (m.share n s r j)) (unsigned_abs (m.amount n s r j)) 0)

  -- of such an amount under an offered remedy
  abbrev pub largest_in : (n s : ℕ) → ℕ
  largest_in n s = most m.remedies (λ r. cond (m.offered n s r) (largest_under n s r) 0)

  -- in any condition
  abbrev pub largest_at : ℕ → ℕ
  largest_at n = most m.conditions (λ s. largest_in n s)

  -- at any of the visits, or a worth, or 1
  abbrev pub greatest : ℕ → ℕ
  greatest H = max (max largest_worth 1) (most H (λ past. largest_at (visit_after past)))

-- a lawful book has a peak
abbrev pub HasAPeak : Type 0
HasAPeak = (m : Model) (H : ℕ) → Lawful m → Peak m H (greatest m H)

-- a book fits exactly if it fits with that
abbrev pub FitsByThePeak : Type 0
FitsByThePeak = (m : Model) (H P : ℕ) → Peak m H P → (Fits m H → WithinLimit m.parts H P) × (WithinLimit m.parts H P → Fits m H)
