-- Numbers in base ten.
use Rattle.std.specs.Prelude.{◌≡◌, ℕ, zero, suc, ◌+◌, ◌-◌, ◌*◌, ◌/◌, ◌%◌, ◌^◌, ◌<◌, ◌≤◌, cond, ◌↔◌, List, [], ◌∷◌, length, ℤ, pos, negsuc, neg_ℤ, ◌==◌, nat_lt, slice_index, unsigned_abs}
use Rattle.std.specs.Fmt.{decimal, signed_decimal}

abbrev pub Bytes : Type 0
Bytes = List ℕ

-- the digits of n before some bytes, with turns enough
abbrev pub digits_onto : (turns n : ℕ) → Bytes → Bytes
digits_onto zero n bs = bs
digits_onto (suc k) n bs = let more = digits_onto k (n / 10) ((48 + n % 10) ∷ bs) in cond (nat_lt n 10) ((48 + n) ∷ bs) more

-- a number without leading zeros, and one with a sign: a minus (45) stands before one below 0
abbrev pub numeral : ℕ → Bytes
numeral n = digits_onto (suc n) n []

abbrev pub signed : ℤ → Bytes
signed (pos n) = numeral n
signed (negsuc n) = 45 ∷ numeral (suc n)

-- each is a digit (48 to 57)
abbrev pub AllDigits : Bytes → Type 0
AllDigits bs = (i : ℕ) → i < length bs → (48 ≤ slice_index bs i) × (slice_index bs i ≤ 57)

-- one digit or more (48 to 57), the first a zero only where it stands alone
pub record BaseTen (bs : Bytes) : Type 0 where
  pub some : 0 < length bs
  pub low : (i : ℕ) → i < length bs → 48 ≤ slice_index bs i
  pub high : (i : ℕ) → i < length bs → slice_index bs i ≤ 57
  pub leading : slice_index bs 0 ≡ 48 → length bs ≡ 1

abbrev pub value_after : ℕ → Bytes → ℕ
value_after n [] = n
value_after n (x ∷ xs) = value_after (n * 10 + (x - 48)) xs

-- the one number of which some bytes may be the numeral
abbrev pub value : Bytes → ℕ
value bs = value_after 0 bs

abbrev pub signed_value : Bytes → ℤ
signed_value [] = pos 0
signed_value (x ∷ xs) = cond (x == 45) (neg_ℤ (pos (value xs))) (pos (value (x ∷ xs)))

abbrev pub NumeralsAreBaseTen : Type 0
NumeralsAreBaseTen = (bs : Bytes) (n : ℕ) → (bs ≡ numeral n) ↔ (BaseTen bs × (value bs ≡ n))

-- what std prints of a number below 2 ^ 64, and of one with a sign, is its numeral
pub record NumeralsArePrinted : Type 0 where
  pub plain : (n : ℕ) → n < 2 ^ 64 → decimal n ≡ numeral n
  pub with_sign : (z : ℤ) → unsigned_abs z < 2 ^ 64 → signed_decimal z ≡ signed z
