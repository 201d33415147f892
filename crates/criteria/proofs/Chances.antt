-- The chances of all courses are whole, and the expected total of one visit more.
use Rattle.std.proofs.Common.{◌≡◌, ℕ, zero, suc, ◌+◌, ◌*◌, ◌^◌, ◌<◌, ◌≤◌, length, ℤ, pos, ◌+ℤ◌, ◌*ℤ◌, sym, ap, ◌∙◌, mul_comm}
use native.Mathlib.Nat.{pow-succ', pow-zero}
use lib.IntN.{*ℤ_comm}
use Rattle.model.specs.Model.{Model, offers}
use Rattle.model.specs.Visits.{Even}
use Rattle.criteria.specs.Policies.{History, next_visit, Within, Choice, Policy, OffersItsOwn, onward}
use Rattle.criteria.specs.Expected.{below, over, chance, gain, expected, ChancesAreWhole}
use Rattle.criteria.specs.Ints.{times_sum, times_times}
use Rattle.criteria.proofs.Sums.{below_same, below_times, over_sum, over_times, over_same, below_weight}
use Rattle.criteria.proofs.Histories.{place_at, onward_within}

spread : (a b : ℕ) (x y : ℤ) → pos (a * b) *ℤ (x +ℤ y) ≡ pos a *ℤ (x *ℤ pos b +ℤ pos b *ℤ y)
spread a b x y = times_times a b (x +ℤ y) ∙ ap (λ z. pos a *ℤ z) (times_sum (pos b) x y ∙ ap (λ z. z +ℤ pos b *ℤ y) (*ℤ_comm (pos b) x))

-- what one outcome of a visit adds to the expected total, with k visits after it
abbrev pub term : (m : Model) (n s r k : ℕ) → (ℕ → ℤ) → ℕ → ℤ
term m n s r k later j = pos (m.share n s r j) *ℤ (pos (m.parts ^ k) *ℤ m.amount n s r j +ℤ later j)

module _ (m : Model) (visits : ℕ) (p : Choice) (own : OffersItsOwn (offers m)) (even : Even m visits) (policy : Policy (offers m) visits p) where
  chances : (k : ℕ) (h : History) (s : ℕ) → length h + k ≤ visits → Within (offers m) h → s < m.conditions → over m.conditions k (λ c. pos (chance m p h s c)) ≡ pos (m.parts ^ k)
  chances zero h s l w i = ap pos (sym (pow-zero m.parts))
  chances (suc k) h s l w i =
      let on = onward_within (offers m) visits p own policy k h s l w i in
      let n = m.conditions in
      let share : ℕ → ℕ = λ j. m.share (next_visit h) s (p h s) j in
      let q : ℤ = pos (m.parts ^ k) in
      let each : (j : ℕ) → j < n → over n k (λ c. pos (share j * chance m p (onward p h s) j c)) ≡ q *ℤ pos (share j) =
      λ j jl. over_times n k (pos (share j)) (λ c. pos (chance m p (onward p h s) j c)) ∙ ap (λ x. pos (share j) *ℤ x) (chances k (onward p h s) j on.0 on.1 jl) ∙ *ℤ_comm (pos (share j)) q in
      below_same n _ _ each ∙ below_times n q (λ j. pos (share j)) ∙ ap (λ x. q *ℤ x) (below_weight m (next_visit h) s (p h s) n ∙ ap pos (even (next_visit h) s (p h s) (place_at (offers m) visits k h s l i) on.2)) ∙ ap pos (mul_comm (m.parts ^ k) m.parts ∙ sym (pow-succ' m.parts k))

  pub expected_step : (k : ℕ) (h : History) (s : ℕ) → length h + suc k ≤ visits → Within (offers m) h → s < m.conditions → expected m p (suc k) h s ≡ below m.conditions (term m (next_visit h) s (p h s) k (expected m p k (onward p h s)))
  expected_step k h s l w i =
      let on = onward_within (offers m) visits p own policy k h s l w i in
      let n = m.conditions in
      let h' : History = onward p h s in
      let share : ℕ → ℕ = λ j. m.share (next_visit h) s (p h s) j in
      let amount : ℕ → ℤ = λ j. m.amount (next_visit h) s (p h s) j in
      let each : (j : ℕ) → j < n → over n k (λ c. pos (share j * chance m p h' j c) *ℤ (amount j +ℤ gain m p h' j c)) ≡ term m (next_visit h) s (p h s) k (expected m p k h') j =
      λ j jl. over_same n k _ (λ c. pos (share j) *ℤ (amount j *ℤ pos (chance m p h' j c) +ℤ pos (chance m p h' j c) *ℤ gain m p h' j c)) (λ c. spread (share j) (chance m p h' j c) (amount j) (gain m p h' j c))
      ∙ over_times n k (pos (share j)) (λ c. amount j *ℤ pos (chance m p h' j c) +ℤ pos (chance m p h' j c) *ℤ gain m p h' j c)
      ∙ ap (λ x. pos (share j) *ℤ x) (over_sum n k (λ c. amount j *ℤ pos (chance m p h' j c)) (λ c. pos (chance m p h' j c) *ℤ gain m p h' j c)
      ∙ ap (λ x. x +ℤ expected m p k h' j) (over_times n k (amount j) (λ c. pos (chance m p h' j c)) ∙ ap (λ x. amount j *ℤ x) (chances k h' j on.0 on.1 jl) ∙ *ℤ_comm (amount j) (pos (m.parts ^ k)))) in
      below_same n _ _ each

pub chances_are_whole : ChancesAreWhole
chances_are_whole = chances
