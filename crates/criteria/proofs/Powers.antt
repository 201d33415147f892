-- Powers that are held within 64 bits with a sign.
use Rattle.std.proofs.Common.{◌≡◌, ℕ, zero, suc, ◌-◌, ◌^◌, ◌<◌, ◌≤◌, min, pos, sym, ap, ◌∙◌, ⊎_elim, le_trans, pow-suc, mul-zero, mul-one, arith}
use native.Mathlib.Nat.{pow-zero, pow-le-pow_left, pow-le-pow_right}
use Rattle.std.proofs.lemmas.Bool.{cases_lt}
use Rattle.criteria.specs.Mean.{hold}

zero_power : (e : ℕ) → 0 < e → 0 ^ e ≡ 0
zero_power zero h = absurd (let f : 0 < 0 = h in omega arith)
zero_power (suc e) h = pow-suc 0 e ∙ mul-zero (0 ^ e)

one_power : (e : ℕ) → 1 ^ e ≡ 1
one_power zero = pow-zero 1
one_power (suc e) = pow-suc 1 e ∙ mul-one (1 ^ e) ∙ one_power e

large_power : (b e : ℕ) → 2 ≤ b → 63 ≤ e → hold (pos (b ^ e)) ≡ pos (2 ^ 63 - 1)
large_power b e low far =
    let up : 2 ^ 63 ≤ b ^ e = le_trans (pow-le-pow_left low 63) (pow-le-pow_right (omega arith) far) in
    ap pos (omega arith)

-- from 63 on a power is 0, 1 or held
pub power_to_63 : (b e : ℕ) → hold (pos (b ^ min e 63)) ≡ hold (pos (b ^ e))
power_to_63 b e = ⊎_elim near (far b) (cases_lt e 63)
  where
    near : e < 63 → hold (pos (b ^ min e 63)) ≡ hold (pos (b ^ e))
    near h =
        let same : min e 63 ≡ e = omega arith in
        ap (λ (n : ℕ). hold (pos (b ^ n))) same

    to : (a : ℕ) → 63 ≤ e → hold (pos (a ^ 63)) ≡ hold (pos (a ^ e)) → hold (pos (a ^ min e 63)) ≡ hold (pos (a ^ e))
    to a h same =
        let held : min e 63 ≡ 63 = omega arith in
        ap (λ (n : ℕ). hold (pos (a ^ n))) held ∙ same

    far : (a : ℕ) → 63 ≤ e → hold (pos (a ^ min e 63)) ≡ hold (pos (a ^ e))
    far zero h = to 0 h (ap (λ (n : ℕ). hold (pos n)) (zero_power 63 (omega arith) ∙ sym (zero_power e (omega arith))))
    far (suc zero) h = to 1 h (ap (λ (n : ℕ). hold (pos n)) (one_power 63 ∙ sym (one_power e)))
    far (suc (suc a)) h = to (suc (suc a)) h (large_power (suc (suc a)) 63 (omega arith) (omega arith) ∙ sym (large_power (suc (suc a)) e (omega arith) h))
