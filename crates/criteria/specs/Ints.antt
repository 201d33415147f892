-- Integers: products, sizes, what is held.
use Rattle.std.specs.Prelude.{◌≡◌, ℕ, zero, suc, ◌+◌, ◌*◌, ◌^◌, ◌≤◌, ℤ, pos, negsuc, ◌+ℤ◌, ◌*ℤ◌, neg_ℤ, ◌≤ℤ◌, unsigned_abs, refl}
use Rattle.std.proofs.Common.{ap, arith, mul-le-mul_left}
use borrow.Author.Differences.{up, down, sum_is_lem, product_is, le_out}
use Rattle.std.proofs.lemmas.Int.{ints}
use Rattle.criteria.specs.Mean.{hold}

pub times_sum : (a b c : ℤ) → a *ℤ (b +ℤ c) ≡ a *ℤ b +ℤ a *ℤ c
times_sum a b c = omega (arith, ints, ap (λ (n : ℕ). up a * n) (sum_is_lem b c), ap (λ (n : ℕ). down a * n) (sum_is_lem b c))

pub times_times : (a b : ℕ) (z : ℤ) → pos (a * b) *ℤ z ≡ pos a *ℤ (pos b *ℤ z)
times_times a b z = omega (arith, ints, ap (λ (n : ℕ). a * n) (product_is (pos b) z).0, ap (λ (n : ℕ). a * n) (product_is (pos b) z).1)

abs_neg : (n : ℕ) → unsigned_abs (neg_ℤ (pos n)) ≡ n
abs_neg zero = refl
abs_neg (suc n) = refl

pub abs_times : (a b : ℤ) → unsigned_abs (a *ℤ b) ≡ unsigned_abs a * unsigned_abs b
abs_times (pos a) (pos b) = refl
abs_times (pos a) (negsuc b) = abs_neg (a * suc b)
abs_times (negsuc a) (pos b) = abs_neg (suc a * b)
abs_times (negsuc a) (negsuc b) = refl

pub abs_sum : (a b : ℤ) → unsigned_abs (a +ℤ b) ≤ unsigned_abs a + unsigned_abs b
abs_sum a b = omega (arith, ints)

pub held : (z : ℤ) → unsigned_abs z ≤ 2 ^ 62 → hold z ≡ z
held (pos n) h = ap pos (omega arith)
held (negsuc n) h = ap negsuc (omega arith)

pub hold_mono : (a b : ℤ) → a ≤ℤ b → hold a ≤ℤ hold b
hold_mono (pos a) (pos b) h = let e = le_out _ _ h in omega (arith, ints)
hold_mono (pos a) (negsuc b) h = let e = le_out _ _ h in omega (arith, ints)
hold_mono (negsuc a) (pos b) h = let e = le_out _ _ h in omega (arith, ints)
hold_mono (negsuc a) (negsuc b) h = let e = le_out _ _ h in omega (arith, ints)

pub times_mono : (n : ℕ) (a b : ℤ) → a ≤ℤ b → (pos n *ℤ a) ≤ℤ (pos n *ℤ b)
times_mono n a b h = omega (arith, ints, mul-le-mul_left n (le_out a b h))

pub sum_mono : (a b c d : ℤ) → a ≤ℤ b → c ≤ℤ d → (a +ℤ c) ≤ℤ (b +ℤ d)
sum_mono a b c d h g = omega (arith, ints)
