-- What the numbers of an accepted plan or judgement are, in the subject's own words.
use Rattle.std.specs.Prelude.{◌≡◌, ℕ, suc, ◌+◌, ◌*◌, ◌^◌, ◌<◌, ◌≤◌, T, List, length, ℤ, pos, ◌≤ℤ◌}
use Rattle.model.specs.Model.{Model, offers}
use Rattle.criteria.specs.Policies.{History, next_visit, Within, Choice, Policy, entered, value, tabled}
use Rattle.criteria.specs.Mean.{mean}
use Rattle.criteria.specs.Floor.{floor}
use Rattle.criteria.specs.Expected.{over, chance, gain, expected, Unheld}
use Rattle.criteria.specs.Least.{Possible, Least}
use Rattle.planning.specs.Tables.{at}

-- what is said at each of H visits, after any history, in any condition, with k visits left
abbrev pub Everywhere : Model → ℕ → (History → ℕ → ℕ → Type 0) → Type 0
Everywhere m H P = (h : History) (k s : ℕ) → length h + k ≡ H → Within (offers m) h → s < m.conditions → P h k s

-- values by the mean of a table of remedies
pub record ExpectedTotals (m : Model) (H : ℕ) (rs : List ℕ) (vs : List ℤ) : Type 0 where
  -- each is the expected total of the policy times parts ^ k: the sum over all courses of the product of shares times the total
  pub totals : Everywhere m H (λ h k s. at mean vs (length h * m.conditions + s) ≡ expected m (tabled (offers m) rs) k h s)
  -- and the products of shares of all courses add to parts ^ k
  pub weights : Everywhere m H (λ h k s. over m.conditions k (λ c. pos (chance m (tabled (offers m) rs) h s c)) ≡ pos (m.parts ^ k))
  -- no result on the way was held within 64 bits
  pub unheld : (h g : History) (k s r j : ℕ) → length h + suc k ≤ H → length g ≡ suc (length h) → Within (offers m) g → s < m.conditions → T (m.offered (next_visit h) s r) → j < m.conditions → 0 < m.share (next_visit h) s r j → Unheld (suc k) m.parts (m.share (next_visit h) s r j) (m.amount (next_visit h) s r j) (value mean m (tabled (offers m) rs) k g j) (entered mean m (next_visit h) (suc k) s r (λ i. value mean m (tabled (offers m) rs) k g i) j)

-- no policy has a greater expected total
abbrev pub GreatestExpected : Model → (H : ℕ) → List ℕ → Type 0
GreatestExpected m H rs = (q : Choice) → Policy (offers m) H q → Everywhere m H (λ h k s. expected m q k h s ≤ℤ expected m (tabled (offers m) rs) k h s)

-- values by the floor of a table of remedies: each is the least total of a course that can come about
abbrev pub LeastTotals : Model → (H : ℕ) → List ℕ → List ℤ → Type 0
LeastTotals m H rs vs = Everywhere m H (λ h k s. Least m (tabled (offers m) rs) k h s (at floor vs (length h * m.conditions + s)))

-- every policy has a possible course whose total is no greater than that of any possible course under the table
abbrev pub GreatestLeast : Model → (H : ℕ) → List ℕ → Type 0
GreatestLeast m H rs = (q : Choice) → Policy (offers m) H q → Everywhere m H (λ h k s. (d : List ℕ) × (length d ≡ k) × Possible m q h s d × ((e : List ℕ) → length e ≡ k → Possible m (tabled (offers m) rs) h s e → gain m q h s d ≤ℤ gain m (tabled (offers m) rs) h s e))
