-- Sums below a number and over all sequences.
use Rattle.std.proofs.Common.{◌≡◌, ℕ, zero, suc, ◌+◌, ◌-◌, ◌<◌, ◌≤◌, List, ◌∷◌, ℤ, pos, ◌+ℤ◌, ◌*ℤ◌, sym, refl, ap, ◌∙◌, subst, arith}
use mathlib.Core.Path.{fun_ext}
use lib.IntN.{*ℤ-zero}
use Rattle.std.proofs.lemmas.Int.{ints}
use Rattle.model.specs.Model.{Model, weight}
use Rattle.criteria.specs.Expected.{below, over}
use Rattle.criteria.specs.Ints.{times_sum}

pub below_same : (n : ℕ) (f g : ℕ → ℤ) → ((j : ℕ) → j < n → f j ≡ g j) → below n f ≡ below n g
below_same zero f g e = refl
below_same (suc n) f g e =
    let a = below_same n f g (λ j l. e j (omega arith)) in
    let b = e n (omega arith) in
    λ i. a i +ℤ b i

pub below_sum : (n : ℕ) (f g : ℕ → ℤ) → below n (λ j. f j +ℤ g j) ≡ below n f +ℤ below n g
below_sum zero f g = refl
below_sum (suc n) f g = let e = below_sum n f g in omega (arith, ints)

pub below_times : (n : ℕ) (a : ℤ) (f : ℕ → ℤ) → below n (λ j. a *ℤ f j) ≡ a *ℤ below n f
below_times zero a f = sym (*ℤ-zero a)
below_times (suc n) a f = ap (λ x. x +ℤ a *ℤ f n) (below_times n a f) ∙ sym (times_sum a (below n f) (f n))

pub over_sum : (n k : ℕ) (f g : List ℕ → ℤ) → over n k (λ c. f c +ℤ g c) ≡ over n k f +ℤ over n k g
over_sum n zero f g = refl
over_sum n (suc k) f g = ap (below n) (fun_ext (λ j. over_sum n k (λ c. f (j ∷ c)) (λ c. g (j ∷ c)))) ∙ below_sum n _ _

pub over_times : (n k : ℕ) (a : ℤ) (f : List ℕ → ℤ) → over n k (λ c. a *ℤ f c) ≡ a *ℤ over n k f
over_times n zero a f = refl
over_times n (suc k) a f = ap (below n) (fun_ext (λ j. over_times n k a (λ c. f (j ∷ c)))) ∙ below_times n a _

pub over_same : (n k : ℕ) (f g : List ℕ → ℤ) → ((c : List ℕ) → f c ≡ g c) → over n k f ≡ over n k g
over_same n k f g e = ap (over n k) (fun_ext e)

-- the shares below j, as an integer
pub below_weight : (m : Model) (n s r j : ℕ) → below j (λ i. pos (m.share n s r i)) ≡ pos (weight m n s r j)
below_weight m n s r zero = refl
below_weight m n s r (suc j) = ap (λ x. x +ℤ pos (m.share n s r j)) (below_weight m n s r j)

pub weight_mono : (m : Model) (n s r i d : ℕ) → weight m n s r i ≤ weight m n s r (d + i)
weight_mono m n s r i zero = let e : i ≡ 0 + i = omega arith in let l : weight m n s r i ≤ weight m n s r i = omega arith in subst (λ x. weight m n s r i ≤ weight m n s r x) e l
weight_mono m n s r i (suc d) = let e : suc (d + i) ≡ suc d + i = omega arith in let l : weight m n s r i ≤ weight m n s r (suc (d + i)) = omega (arith, weight_mono m n s r i d) in subst (λ x. weight m n s r i ≤ weight m n s r x) e l

pub weight_le : (m : Model) (n s r i j : ℕ) → i ≤ j → weight m n s r i ≤ weight m n s r j
weight_le m n s r i j l = let e : (j - i) + i ≡ j = omega arith in subst (λ x. weight m n s r i ≤ weight m n s r x) e (weight_mono m n s r i (j - i))
