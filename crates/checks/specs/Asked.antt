-- A walk over visits that asks about the first of those that are alike.
use Rattle.std.specs.Prelude.{◌≡◌, ℕ, ◌<◌, ◌≤◌}
use Rattle.model.specs.Model.{Model}
use Rattle.model.specs.Visits.{visit_after}
use Rattle.model.specs.Rows.{Alike}

-- past the first visits of H comes visit n, and it answers for the visits up to last
pub record Asked (m : Model) (H past n last : ℕ) : Type 0 where
  pub some : past < H
  pub next : n ≡ visit_after past
  pub on : n ≤ last
  pub alike : (k : ℕ) → n ≤ k → k ≤ last → Alike m n k
