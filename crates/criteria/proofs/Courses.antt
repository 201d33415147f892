-- Each sequence is taken once.
use Rattle.std.proofs.Common.{◌≡◌, ℕ, zero, suc, ◌<◌, cond, ◌&&◌, eqb, [], ◌∷◌, ℤ, pos, ◌+ℤ◌, refl, ap, ◌∙◌, subst, ⊎_elim, arith}
use Rattle.std.proofs.lemmas.Bool.{cases_lt, eq-eqb, ne_eqb}
use Rattle.criteria.specs.Expected.{below, over}
use Rattle.criteria.proofs.Sums.{below_same, over_sum}
use Rattle.criteria.specs.Courses.{same, EachCourseOnce, OnlyCourses, SumsAdd}

below_none : (n : ℕ) (f : ℕ → ℤ) → ((j : ℕ) → j < n → f j ≡ pos 0) → below n f ≡ pos 0
below_none zero f e = refl
below_none (suc n) f e = let a = below_none n f (λ j l. e j (omega arith)) in let b = e n (omega arith) in λ i. a i +ℤ b i

over_none : (n k : ℕ) → over n k (λ d. pos 0) ≡ pos 0
over_none n zero = refl
over_none n (suc k) = below_none n _ (λ j l. over_none n k)

below_one : (n x : ℕ) (f : ℕ → ℤ) → x < n → f x ≡ pos 1 → ((j : ℕ) → (x ≡ j → ⊥) → f j ≡ pos 0) → below n f ≡ pos 1
below_one zero x f l one none = absurd (omega arith)
below_one (suc n) x f l one none = ⊎_elim
    (λ a. let p = below_one n x f a one none in let q = none n (λ e. omega arith) in λ i. p i +ℤ q i)
    (λ b. let e : x ≡ n = omega arith in let p = below_none n f (λ j m. none j (λ g. omega arith)) in let q = subst (λ (y : ℕ). f y ≡ pos 1) e one in λ i. p i +ℤ q i)
    (cases_lt x n)

pub each_course_once : EachCourseOnce
each_course_once n zero [] e b = refl
each_course_once n zero (x ∷ c) e b = absurd (omega arith)
each_course_once n (suc k) [] e b = absurd (omega arith)
each_course_once n (suc k) (x ∷ c) e b =
    let ih = each_course_once n k c (omega arith) b.1 in
    below_one n x (λ j. over n k (λ d. cond (eqb x j && same c d) (pos 1) (pos 0))) b.0
    (ap (λ t. over n k (λ d. cond (t && same c d) (pos 1) (pos 0))) (eq-eqb x x refl) ∙ ih)
    (λ j ne. ap (λ t. over n k (λ d. cond (t && same c d) (pos 1) (pos 0))) (ne_eqb x j ne) ∙ over_none n k)

pub only_courses : OnlyCourses
only_courses n zero f g e = e [] refl tt
only_courses n (suc k) f g e = below_same n _ _ (λ j l. only_courses n k (λ c. f (j ∷ c)) (λ c. g (j ∷ c)) (λ c q b. e (j ∷ c) (ap suc q) (l, b)))

pub sums_add : SumsAdd
sums_add = over_sum
