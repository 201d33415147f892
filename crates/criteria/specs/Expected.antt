-- The expected total, and that it is what the mean computes.
use Rattle.std.specs.Prelude.{◌≡◌, ℕ, zero, suc, ◌+◌, ◌-◌, ◌*◌, ◌^◌, ◌<◌, ◌≤◌, T, List, [], ◌∷◌, length, ℤ, pos, ◌+ℤ◌, ◌*ℤ◌}
use Rattle.model.specs.Model.{Model, offers}
use Rattle.model.specs.Visits.{Even, Fits}
use Rattle.criteria.specs.Policies.{History, next_visit, Within, Choice, Policy, OffersItsOwn, onward, entered, value}
use Rattle.criteria.specs.Mean.{hold, mean}

-- the sum of the f j with j below n
abbrev pub below : ℕ → (ℕ → ℤ) → ℤ
below zero f = pos 0
below (suc j) f = below j f +ℤ f j

-- the sum of the f c over all sequences c of k numbers below n
abbrev pub over : (n k : ℕ) → (List ℕ → ℤ) → ℤ
over n zero f = f []
over n (suc k) f = below n (λ j. over n k (λ c. f (j ∷ c)))

-- a course is the list of the conditions that are met one after another, from a condition after a history
module _ (m : Model) (p : Choice) where
  -- the product of the shares along a course
  abbrev pub chance : History → ℕ → List ℕ → ℕ
  chance h s [] = 1
  chance h s (j ∷ c) = m.share (next_visit h) s (p h s) j * chance (onward p h s) j c

  -- the sum of the amounts along a course, and the worth of the last condition
  abbrev pub gain : History → ℕ → List ℕ → ℤ
  gain h s [] = m.worth s
  gain h s (j ∷ c) = m.amount (next_visit h) s (p h s) j +ℤ gain (onward p h s) j c

  -- the expected total of k visits, times parts ^ k
  abbrev pub expected : (k : ℕ) → History → ℕ → ℤ
  expected k h s = over m.conditions k (λ c. pos (chance h s c) *ℤ gain h s c)

-- the chances of all courses of k visits add to parts ^ k
abbrev pub ChancesAreWhole : Type 0
ChancesAreWhole = (m : Model) (visits : ℕ) (p : Choice) → OffersItsOwn (offers m) → Even m visits → Policy (offers m) visits p → (k : ℕ) (h : History) (s : ℕ) → length h + k ≤ visits → Within (offers m) h → s < m.conditions → over m.conditions k (λ c. pos (chance m p h s c)) ≡ pos (m.parts ^ k)

abbrev pub MeanIsExpected : Type 0
MeanIsExpected = (m : Model) (visits : ℕ) (p : Choice) → OffersItsOwn (offers m) → 1 ≤ m.parts → Even m visits → Fits m visits → Policy (offers m) visits p → (k : ℕ) (h : History) (s : ℕ) → length h + k ≤ visits → Within (offers m) h → s < m.conditions → value mean m p k h s ≡ expected m p k h s

-- the five results of one entry by the mean, none of them held
pub record Unheld (left parts share : ℕ) (amount later account : ℤ) : Type 0 where
  pub power : hold (pos (parts ^ (left - 1))) ≡ pos (parts ^ (left - 1))
  pub scaled : hold (pos (parts ^ (left - 1)) *ℤ amount) ≡ pos (parts ^ (left - 1)) *ℤ amount
  pub onto_later : hold ((pos (parts ^ (left - 1)) *ℤ amount) +ℤ later) ≡ (pos (parts ^ (left - 1)) *ℤ amount) +ℤ later
  pub shared : hold (pos share *ℤ ((pos (parts ^ (left - 1)) *ℤ amount) +ℤ later)) ≡ pos share *ℤ ((pos (parts ^ (left - 1)) *ℤ amount) +ℤ later)
  pub summed : hold (account +ℤ (pos share *ℤ ((pos (parts ^ (left - 1)) *ℤ amount) +ℤ later))) ≡ account +ℤ (pos share *ℤ ((pos (parts ^ (left - 1)) *ℤ amount) +ℤ later))

-- under the number limit no result of the mean is held: at every visit, after every history, under every offered remedy, with the values of any policy to follow
abbrev pub NoMeanResultIsHeld : Type 0
NoMeanResultIsHeld = (m : Model) (visits : ℕ) (p : Choice) → OffersItsOwn (offers m) → 1 ≤ m.parts → Even m visits → Fits m visits → Policy (offers m) visits p → (h g : History) (k s r j : ℕ) → length h + suc k ≤ visits → length g ≡ suc (length h) → Within (offers m) g → s < m.conditions → T (m.offered (next_visit h) s r) → j < m.conditions → 0 < m.share (next_visit h) s r j → Unheld (suc k) m.parts (m.share (next_visit h) s r j) (m.amount (next_visit h) s r j) (value mean m p k g j) (entered mean m (next_visit h) (suc k) s r (λ i. value mean m p k g i) j)
