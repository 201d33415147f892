-- The visits of a contract, and what a plan of H visits needs of a book at them.
use Rattle.std.specs.Prelude.{◌≡◌, ℕ, suc, ◌+◌, ◌*◌, ◌^◌, ◌<◌, ◌≤◌, T, ◌⊎◌, ◌≢◌, unsigned_abs}
use Rattle.model.specs.Model.{Model, Offers, offers, weight}

-- the visit that follows some past visits: row 0 of a table is visit 1
abbrev pub visit_after : ℕ → ℕ
visit_after past = suc past

-- a visit of H, and a condition
pub record Place (o : Offers) (H n s : ℕ) : Type 0 where
  pub from : 1 ≤ n
  pub to : n ≤ H
  pub condition : s < o.conditions

-- the order of searching: by visit, then condition
abbrev pub Before : (n s n' s' : ℕ) → Type 0
Before n s n' s' = (n < n') ⊎ ((n ≡ n') × (s < s'))

abbrev pub Unoffered : Offers → (n s : ℕ) → Type 0
Unoffered o n s = (r : ℕ) → T (o.offered n s r) → ⊥

abbrev pub SomeOffered : Offers → (n s : ℕ) → Type 0
SomeOffered o n s = (r : ℕ) × T (o.offered n s r)

-- every condition has an offered remedy at every visit
abbrev pub Open : Offers → ℕ → Type 0
Open o H = (n s : ℕ) → Place o H n s → SomeOffered o n s

-- an offered remedy whose shares do not add to the parts
abbrev pub Uneven : Model → (n s r : ℕ) → Type 0
Uneven m n s r = T (m.offered n s r) × (weight m n s r m.conditions ≢ m.parts)

abbrev pub Even : Model → ℕ → Type 0
Even m H = (n s r : ℕ) → Place (offers m) H n s → T (m.offered n s r) → weight m n s r m.conditions ≡ m.parts

-- P bounds 1, every worth, and every amount of share above 0 under an offered remedy at the visits
pub record Bounds (m : Model) (H P : ℕ) : Type 0 where
  pub one : 1 ≤ P
  pub worths : (s : ℕ) → s < m.conditions → unsigned_abs (m.worth s) ≤ P
  pub amounts : (n s r j : ℕ) → Place (offers m) H n s → T (m.offered n s r) → 0 < m.share n s r j → unsigned_abs (m.amount n s r j) ≤ P

-- the number limit: parts^H × (H + 1) × P does not pass 2^62
abbrev pub WithinLimit : (parts H P : ℕ) → Type 0
WithinLimit parts H P = parts ^ H * (H + 1) * P ≤ 2 ^ 62

-- it holds for some bound P, and so for the least
abbrev pub Fits : Model → ℕ → Type 0
Fits m H = (P : ℕ) × Bounds m H P × WithinLimit m.parts H P
