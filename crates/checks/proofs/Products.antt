-- A product that is held within 128 bits: a power, and one factor more.
use Rattle.std.proofs.Common.{◌≡◌, ℕ, zero, suc, ◌+◌, ◌-◌, ◌*◌, ◌^◌, ◌<◌, ◌≤◌, min, sym, ap, ◌∙◌, ⊎_elim, le_trans, pow-suc, mul-le-mul_left, mul-zero, mul-one, arith}
use native.Mathlib.Nat.{pow-zero, pow-le-pow_left, pow-le-pow_right}
use Rattle.std.proofs.lemmas.Bool.{cases_lt}

zero_power : (e : ℕ) → 0 < e → 0 ^ e ≡ 0
zero_power zero h = absurd (let f : 0 < 0 = h in omega arith)
zero_power (suc e) h = pow-suc 0 e ∙ mul-zero (0 ^ e)

one_power : (e : ℕ) → 1 ^ e ≡ 1
one_power zero = pow-zero 1
one_power (suc e) = pow-suc 1 e ∙ mul-one (1 ^ e) ∙ one_power e

large_power : (b e : ℕ) → 2 ≤ b → 128 ≤ e → min (b ^ e) (2 ^ 128 - 1) ≡ 2 ^ 128 - 1
large_power b e low far =
    let up : 2 ^ 128 ≤ b ^ e = le_trans (pow-le-pow_left low 128) (pow-le-pow_right (omega arith) far) in
    omega arith

-- from 128 on a power is 0, 1 or held
pub power_to_128 : (b e : ℕ) → min (b ^ min e 128) (2 ^ 128 - 1) ≡ min (b ^ e) (2 ^ 128 - 1)
power_to_128 b e = ⊎_elim near (far b) (cases_lt e 128)
  where
    near : e < 128 → min (b ^ min e 128) (2 ^ 128 - 1) ≡ min (b ^ e) (2 ^ 128 - 1)
    near h =
        let same : min e 128 ≡ e = omega arith in
        ap (λ (n : ℕ). min (b ^ n) (2 ^ 128 - 1)) same

    to : (a : ℕ) → 128 ≤ e → min (a ^ 128) (2 ^ 128 - 1) ≡ min (a ^ e) (2 ^ 128 - 1) → min (a ^ min e 128) (2 ^ 128 - 1) ≡ min (a ^ e) (2 ^ 128 - 1)
    to a h same =
        let held : min e 128 ≡ 128 = omega arith in
        ap (λ (n : ℕ). min (a ^ n) (2 ^ 128 - 1)) held ∙ same

    far : (a : ℕ) → 128 ≤ e → min (a ^ min e 128) (2 ^ 128 - 1) ≡ min (a ^ e) (2 ^ 128 - 1)
    far zero h = to 0 h (ap (λ (n : ℕ). min n (2 ^ 128 - 1)) (zero_power 128 (omega arith) ∙ sym (zero_power e (omega arith))))
    far (suc zero) h = to 1 h (ap (λ (n : ℕ). min n (2 ^ 128 - 1)) (one_power 128 ∙ sym (one_power e)))
    far (suc (suc a)) h = to (suc (suc a)) h (large_power (suc (suc a)) 128 (omega arith) (omega arith) ∙ sym (large_power (suc (suc a)) e (omega arith) h))

-- holding before one more factor changes nothing
held_times : (a b : ℕ) → min (min a (2 ^ 128 - 1) * b) (2 ^ 128 - 1) ≡ min (a * b) (2 ^ 128 - 1)
held_times a b = ⊎_elim some none (cases_lt 0 b)
  where
    more : (x : ℕ) → 0 < b → x ≤ x * b
    more x l = let low : 1 ≤ b = omega arith in omega (arith, mul-le-mul_left x low, mul-one x)

    some : 0 < b → min (min a (2 ^ 128 - 1) * b) (2 ^ 128 - 1) ≡ min (a * b) (2 ^ 128 - 1)
    some l = ⊎_elim
        (λ h. let e : min a (2 ^ 128 - 1) ≡ 2 ^ 128 - 1 = omega arith in
        let f : min a (2 ^ 128 - 1) * b ≡ (2 ^ 128 - 1) * b = ap (λ (x : ℕ). x * b) e in
        omega (arith, f, more a l, more (2 ^ 128 - 1) l))
        (λ h. let e : min a (2 ^ 128 - 1) ≡ a = omega arith in ap (λ (x : ℕ). min (x * b) (2 ^ 128 - 1)) e)
        (cases_lt (2 ^ 128 - 1) a)

    none : b ≤ 0 → min (min a (2 ^ 128 - 1) * b) (2 ^ 128 - 1) ≡ min (a * b) (2 ^ 128 - 1)
    none l =
        let e : b ≡ 0 = omega arith in
        ap (λ (x : ℕ). min (min a (2 ^ 128 - 1) * x) (2 ^ 128 - 1)) e ∙ ap (λ (x : ℕ). min x (2 ^ 128 - 1)) (mul-zero (min a (2 ^ 128 - 1)) ∙ sym (mul-zero a)) ∙ ap (λ (x : ℕ). min (a * x) (2 ^ 128 - 1)) (sym e)

-- so a product that is held at each step decides as the whole one
pub held_decides : (parts H P power times product : ℕ) → power ≡ min (parts ^ H) (2 ^ 128 - 1) → times ≡ min (power * (H + 1)) (2 ^ 128 - 1) → product ≡ min (times * P) (2 ^ 128 - 1) → product ≡ min (parts ^ H * (H + 1) * P) (2 ^ 128 - 1)
held_decides parts H P power times product e f h =
    let so : times ≡ min (parts ^ H * (H + 1)) (2 ^ 128 - 1) = f ∙ ap (λ x. min (x * (H + 1)) (2 ^ 128 - 1)) e ∙ held_times (parts ^ H) (H + 1) in
    h ∙ ap (λ x. min (x * P) (2 ^ 128 - 1)) so ∙ held_times (parts ^ H * (H + 1)) P
