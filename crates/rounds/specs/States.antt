-- A lock in its round, as it is between two calls.
use Rattle.std.specs.Prelude.{ℕ, ◌-◌, ◌*◌, ◌≤◌, ℤ, unsigned_abs}

-- it has arrived at a visit; after the last one it has arrived at the visit after that
pub record Arrival : Type 0 where
  -- how many visits the round has
  pub visits : ℕ
  pub visit : ℕ
  pub condition : ℕ
  -- the amounts so far
  pub collected : ℤ

-- it has been given a remedy at a visit
pub record Treatment : Type 0 where
  pub visits : ℕ
  pub visit : ℕ
  pub condition : ℕ
  pub remedy : ℕ
  pub collected : ℤ

-- what begin, treat and report keep: 1 to 48 visits, a visit from the first to the last that may be, and a sum that fits 64 bits
pub record Sound (visits last visit : ℕ) (collected : ℤ) : Type 0 where
  pub some : 1 ≤ visits
  pub few : visits ≤ 48
  pub from : 1 ≤ visit
  pub to : visit ≤ last
  pub sum : unsigned_abs collected ≤ (visit - 1) * 1000000000
