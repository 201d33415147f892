-- The least total of a possible course, and that it is what the floor computes.
use Rattle.std.specs.Prelude.{◌≡◌, ℕ, ◌+◌, ◌<◌, ◌≤◌, List, [], ◌∷◌, length, ℤ, ◌≤ℤ◌}
use Rattle.model.specs.Model.{Model, offers, Lawful}
use Rattle.model.specs.Visits.{Even}
use Rattle.criteria.specs.Policies.{History, next_visit, Within, Choice, Policy, onward, value}
use Rattle.criteria.specs.Expected.{gain}
use Rattle.criteria.specs.Floor.{floor}

-- a course that can come about: each next condition has a share
abbrev pub Possible : Model → Choice → History → ℕ → List ℕ → Type 0
Possible m p h s [] = Unit {0}
Possible m p h s (j ∷ c) = (j < m.conditions) × (0 < m.share (next_visit h) s (p h s) j) × Possible m p (onward p h s) j c

-- no possible course of k visits has a lower total, and one has this very total
pub record Least (m : Model) (p : Choice) (k : ℕ) (h : History) (s : ℕ) (v : ℤ) : Type 0 where
  pub low : (c : List ℕ) → length c ≡ k → Possible m p h s c → v ≤ℤ gain m p h s c
  pub hit : (c : List ℕ) × (length c ≡ k) × Possible m p h s c × (v ≡ gain m p h s c)

abbrev pub FloorIsLeast : Type 0
FloorIsLeast = (m : Model) (visits : ℕ) (p : Choice) → Lawful m → Even m visits → visits ≤ 48 → Policy (offers m) visits p → (k : ℕ) (h : History) (s : ℕ) → length h + k ≤ visits → Within (offers m) h → s < m.conditions → Least m p k h s (value floor m p k h s)
