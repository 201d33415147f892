-- What the code reads digit by digit is base ten and its value.
use Rattle.std.proofs.Common.{◌≡◌, ℕ, ◌+◌, ◌-◌, ◌*◌, ◌^◌, ◌<◌, min, true, false, [], ◌∷◌, ◌++◌, length, get_or, take, Option, Some, None, MatchOption, sym, refl, ap, ◌∙◌, subst, ⊎_elim, add-one, arith}
use Rattle.std.proofs.Math.Seq.{take-suc}
use Rattle.std.proofs.lemmas.Bool.{cases_Bool}
use Rattle.fields.specs.Numerals.{Bytes, numeral, value_after, value, AllDigits, BaseTen}
use Rattle.fields.specs.Lines.{same}
use Rattle.fields.proofs.Digits.{same_sound, same_itself, numeral_back, numeral_base_ten}

-- as the definitions test it
pub well_formed : (bs : Bytes) → BaseTen bs → same bs (numeral (value bs)) ≡ true
well_formed bs b = subst (λ x. same bs x ≡ true) (numeral_back bs b) (same_itself bs)

pub malformed : (bs : Bytes) (n : ℕ) → (BaseTen bs → ⊥) → same bs (numeral n) ≡ false
malformed bs n out = ⊎_elim (λ e. absurd (out (subst BaseTen (sym (same_sound bs (numeral n) e)) (numeral_base_ten n)))) (λ e. e) (cases_Bool (same bs (numeral n)))

-- a value held at 2 ^ 32
abbrev pub held : ℕ → ℕ
held n = min n (2 ^ 32)

value_after-append : (xs : Bytes) (d n : ℕ) → value_after n (xs ++ (d ∷ [])) ≡ value_after n xs * 10 + (d - 48)
value_after-append [] d n = refl
value_after-append (x ∷ xs) d n = value_after-append xs d (n * 10 + (x - 48))

-- one digit more
pub held_more : (bs : Bytes) (i number next : ℕ) → i < length bs → number ≡ held (value (take i bs)) → next ≡ held (number * 10 + (get_or bs i 0 - 48)) → next ≡ held (value (take (i + 1) bs))
held_more bs i number next l e f =
    let more : value (take (i + 1) bs) ≡ value (take i bs) * 10 + (get_or bs i 0 - 48) = ap value (ap (λ k. take k bs) (add-one i) ∙ take-suc bs i 0 l) ∙ value_after-append (take i bs) (get_or bs i 0) 0 in
    omega arith

-- digits are base ten where some are there, and no zero leads others
pub based : (bs : Bytes) (r : Option ℕ) → 0 < length bs → (get_or bs 0 0 ≡ 48 → length bs ≡ 1) → MatchOption r (AllDigits bs → ⊥) (λ n. AllDigits bs × (n ≡ held (value bs))) → MatchOption r (BaseTen bs → ⊥) (λ n. BaseTen bs × (n ≡ held (value bs)))
based bs None some lead out = λ b. out (λ i l. (b.low i l, b.high i l))
based bs (Some n) some lead (all, e) = (record { some = some; low = λ i l. (all i l).0; high = λ i l. (all i l).1; leading = lead }, e)
