-- What std prints of a number is its numeral.
use Rattle.std.proofs.Common.{◌≡◌, ℕ, suc, ◌^◌, ◌<◌, [], ◌∷◌, ℤ, pos, negsuc, nat_abs, sym, ap, ◌∙◌, append-nil, arith, rules}
use Rattle.std.proofs.lemmas.Fmt.{PrependsLastDigit, decimal_from_prepends, length-decimal-le_succ}
use Rattle.std.specs.Fmt.{decimal, signed_decimal}
use Rattle.fields.specs.Numerals.{digits_onto, numeral, signed}

last_digits : PrependsLastDigit digits_onto
last_digits = search rules

pub numeral_printed : (n : ℕ) → n < 2 ^ 64 → decimal n ≡ numeral n
numeral_printed n h = sym (decimal_from_prepends digits_onto last_digits (suc n) n [] h (omega (arith, length-decimal-le_succ n h)) ∙ append-nil (decimal n))

pub signed_printed : (z : ℤ) → nat_abs z < 2 ^ 64 → signed_decimal z ≡ signed z
signed_printed (pos n) h = numeral_printed n h
signed_printed (negsuc n) h = ap (λ ds. 45 ∷ ds) (numeral_printed (suc n) h)
