-- What a plan by the mean, and one by the floor, come to in the subject's own words.
use Rattle.std.specs.Prelude.{◌≡◌, ℕ, ◌+◌, ◌<◌, ◌≤◌, List, length, ◌≤ℤ◌}
use Rattle.model.specs.Model.{Model, offers, Lawful}
use Rattle.model.specs.Visits.{Even, Fits}
use Rattle.criteria.specs.Policies.{History, Within, Choice, Policy}
use Rattle.criteria.specs.Optimal.{Plan, ruled}
use Rattle.criteria.specs.Mean.{mean}
use Rattle.criteria.specs.Floor.{floor}
use Rattle.criteria.specs.Expected.{expected, gain}
use Rattle.criteria.specs.Least.{Possible}

-- no policy has a greater expected total, after any history
abbrev pub MeanPlanIsBest : Type 0
MeanPlanIsBest = (m : Model) (visits : ℕ) (c : ℕ → ℕ → ℕ) → Lawful m → Even m visits → Fits m visits → visits ≤ 48 → Plan mean m visits c → (q : Choice) → Policy (offers m) visits q → (h : History) (k s : ℕ) → length h + k ≡ visits → Within (offers m) h → s < m.conditions → expected m q k h s ≤ℤ expected m (ruled c) k h s

-- every policy has a possible course whose total is no greater than that of any possible course under the plan
abbrev pub FloorPlanIsBest : Type 0
FloorPlanIsBest = (m : Model) (visits : ℕ) (c : ℕ → ℕ → ℕ) → Lawful m → Even m visits → visits ≤ 48 → Plan floor m visits c → (q : Choice) → Policy (offers m) visits q → (h : History) (k s : ℕ) → length h + k ≡ visits → Within (offers m) h → s < m.conditions → (d : List ℕ) × (length d ≡ k) × Possible m q h s d × ((e : List ℕ) → length e ≡ k → Possible m (ruled c) h s e → gain m q h s d ≤ℤ gain m (ruled c) h s e)

-- all that these laws ask can be met at once: by a book of 48 visits, with a plan by each criterion
abbrev pub PremisesCanBeMet : Type 0
PremisesCanBeMet = (m : Model) × (c : ℕ → ℕ → ℕ) × Lawful m × Even m 48 × Fits m 48 × Plan mean m 48 c × Plan floor m 48 c
