-- What the numbers of a criterion of totals stand for: what is asked of its meaning, `totals` and `greatest`.
use Rattle.std.specs.Prelude.{ℕ, ◌≤◌, List, ℤ}
use Rattle.model.specs.Model.{Model, offers, Lawful}
use Rattle.model.specs.Visits.{Even, Fits}
use Rattle.criteria.specs.Criteria.{Ops}
use Rattle.criteria.specs.Policies.{Policy, Unbeaten, tabled}
use Rattle.planning.specs.Plans.{ValuesOf}

-- a table of remedies that a plan or a judgement of H visits accepts
pub record Accepted (m : Model) (H : ℕ) (rs : List ℕ) : Type 0 where
  pub lawful : Lawful m
  pub few : H ≤ 48
  pub evenly : Even m H
  pub fitting : Fits m H
  pub policy : Policy (offers m) H (tabled (offers m) rs)

-- the values of an accepted table are its totals
abbrev pub ValuesAreTotals : Ops ℤ ℤ → (Model → ℕ → List ℕ → List ℤ → Type 0) → Type 0
ValuesAreTotals o totals = (m : Model) (H : ℕ) (rs : List ℕ) (vs : List ℤ) → Accepted m H rs → ValuesOf o m H (tabled (offers m) rs) vs → totals m H rs vs

-- an accepted table that no policy beats has the greatest totals
abbrev pub UnbeatenIsGreatest : Ops ℤ ℤ → (Model → ℕ → List ℕ → Type 0) → Type 0
UnbeatenIsGreatest o greatest = (m : Model) (H : ℕ) (rs : List ℕ) → Accepted m H rs → Unbeaten o m H (tabled (offers m) rs) → greatest m H rs
