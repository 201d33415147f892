-- `over n k` takes each sequence of k numbers below n once, and no other.
use Rattle.std.specs.Prelude.{◌≡◌, ℕ, ◌<◌, Bool, true, false, cond, ◌&&◌, List, [], ◌∷◌, length, ℤ, pos, ◌+ℤ◌, ◌==◌}
use Rattle.criteria.specs.Expected.{over}

abbrev pub same : List ℕ → List ℕ → Bool
same [] [] = true
same [] (y ∷ d) = false
same (x ∷ c) [] = false
same (x ∷ c) (y ∷ d) = x == y && same c d

-- each of the list is below n
abbrev pub Below : ℕ → List ℕ → Type 0
Below n [] = Unit {0}
Below n (x ∷ c) = (x < n) × Below n c

abbrev pub EachCourseOnce : Type 0
EachCourseOnce = (n k : ℕ) (c : List ℕ) → length c ≡ k → Below n c → over n k (λ d. cond (same c d) (pos 1) (pos 0)) ≡ pos 1

-- and no other sequence is taken
abbrev pub OnlyCourses : Type 0
OnlyCourses = (n k : ℕ) (f g : List ℕ → ℤ) → ((c : List ℕ) → length c ≡ k → Below n c → f c ≡ g c) → over n k f ≡ over n k g

abbrev pub SumsAdd : Type 0
SumsAdd = (n k : ℕ) (f g : List ℕ → ℤ) → over n k (λ c. f c +ℤ g c) ≡ over n k f +ℤ over n k g
