-- What a field must be, and the first fault of a line.
use Rattle.std.specs.Prelude.{◌≡◌, ℕ, ◌+◌, ◌<◌, ◌≤◌, ◌⊎◌, List, [], ◌∷◌, length, ℤ, slice_index_or, unsigned_abs}
use Rattle.fields.specs.Numerals.{Bytes, numeral, signed}
use Rattle.fields.specs.Lines.{Without, Starts}

-- one of some letters, a number from a first to a last, a number up to a greatest either way
pub data Kind : Type 0 where
  one_of : Bytes → Kind
  from_to : ℕ → ℕ → Kind
  either_way : ℕ → Kind

-- one of these letters
abbrev pub LetterOf : Bytes → ℕ → Type 0
LetterOf [] l = ⊥
LetterOf (x ∷ xs) l = (l ≡ x) ⊎ LetterOf xs l

-- the bytes are of the kind, whatever the limits: the numeral of some number
abbrev pub WellFormed : Kind → Bytes → Type 0
WellFormed (one_of ls) f = (l : ℕ) × (f ≡ l ∷ []) × LetterOf ls l
WellFormed (from_to a b) f = (n : ℕ) × (f ≡ numeral n)
WellFormed (either_way b) f = (z : ℤ) × (f ≡ signed z)

-- and within the limits
abbrev pub Good : Kind → Bytes → Type 0
Good (one_of ls) f = (l : ℕ) × (f ≡ l ∷ []) × LetterOf ls l
Good (from_to a b) f = (n : ℕ) × (f ≡ numeral n) × (a ≤ n) × (n ≤ b)
Good (either_way b) f = (z : ℤ) × (f ≡ signed z) × (unsigned_abs z ≤ b)

-- the number that a field's fault is reported by: 20, or 22 and then 23
abbrev pub Bad : Kind → Bytes → ℕ → Type 0
Bad (one_of ls) f n = (n ≡ 20) × ¬ Good (one_of ls) f
Bad (from_to a b) f n = ((n ≡ 22) × ¬ WellFormed (from_to a b) f) ⊎ ((n ≡ 23) × WellFormed (from_to a b) f × ¬ Good (from_to a b) f)
Bad (either_way b) f n = ((n ≡ 22) × ¬ WellFormed (either_way b) f) ⊎ ((n ≡ 23) × WellFormed (either_way b) f × ¬ Good (either_way b) f)

abbrev pub AllGood : List Kind → List Bytes → Type 0
AllGood ts fs = (length fs ≡ length ts) × ((i : ℕ) → i < length fs → Good (slice_index_or ts i (either_way 0)) (slice_index_or fs i []))

-- checks 26, 20, 21, 22 and 23 of the line that some bytes begin with, where these letters may stand and these kinds follow each:
-- no earlier one applies to it, and this one does
pub data Misread (ls : Bytes) (ts : ℕ → List Kind) (bs : Bytes) : (number field : ℕ) → Type 0 where
  unended : Without 10 bs → Misread ls ts bs 26 0
  wrong_letter : (f : Bytes) (fs : List Bytes) → Starts bs f fs → ¬ Good (one_of ls) f → Misread ls ts bs 20 1
  wrong_count : (l : ℕ) (fs : List Bytes) → Starts bs (l ∷ []) fs → LetterOf ls l → ¬ (length fs ≡ length (ts l)) → Misread ls ts bs 21 0
  wrong_field : (l : ℕ) (fs : List Bytes) (i n : ℕ) → Starts bs (l ∷ []) fs → LetterOf ls l → length fs ≡ length (ts l) → i < length fs → ((j : ℕ) → j < i → Good (slice_index_or (ts l) j (either_way 0)) (slice_index_or fs j [])) → Bad (slice_index_or (ts l) i (either_way 0)) (slice_index_or fs i []) n → Misread ls ts bs n (i + 2)
