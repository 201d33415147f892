-- The first fault of a line, computed.
use Rattle.std.specs.Prelude.{◌≡◌, ℕ, suc, Bool, false, cond, ◌&&◌, ◌||◌, ◌↔◌, List, [], ◌∷◌, ◌++◌, length, ℤ, pos, ◌==◌, nat_le, slice_index, slice_index_or, unsigned_abs}
use Rattle.fields.specs.Numerals.{Bytes, numeral, signed, value, signed_value}
use Rattle.fields.specs.Lines.{split, same, Without}
use Rattle.fields.specs.Kinds.{Kind, Misread}
use Rattle.fields.specs.Kinds.Kind.{one_of, from_to, either_way}

-- a fault as it is reported; its third place is always 0
pub record Reported : Type 0 where
  pub number : ℕ
  pub line_number : ℕ
  pub field : ℕ

abbrev pub reported : (number line field : ℕ) → Reported
reported n k i = record { number = n; line_number = k; field = i }

pub data Checked (A : Type 0) : Type 0 where
  good : A → Checked A
  faulty : Reported → Checked A

abbrev pub and_then : {A B : Type 0} → Checked A → (A → Checked B) → Checked B
and_then (good a) f = f a
and_then (faulty x) f = faulty x

abbrev pub is_letter : Bytes → Bytes → Bool
is_letter [] f = false
is_letter (l ∷ ls) f = same f (l ∷ []) || is_letter ls f

-- a field of line k at place i: 20, or 22 and then 23
abbrev pub check_field : (k i : ℕ) → Kind → Bytes → Checked ℤ
check_field k i (one_of ls) f = cond (is_letter ls f) (good (pos (slice_index f 0))) (faulty (reported 20 k i))
check_field k i (from_to a b) f = cond (same f (numeral (value f))) (cond (nat_le a (value f) && nat_le (value f) b) (good (pos (value f))) (faulty (reported 23 k i))) (faulty (reported 22 k i))
check_field k i (either_way b) f = cond (same f (signed (signed_value f))) (cond (nat_le (unsigned_abs (signed_value f)) b) (good (signed_value f)) (faulty (reported 23 k i))) (faulty (reported 22 k i))

-- the fields from place i, one by one; 21 where there are more or fewer than there must be
abbrev pub check_fields : (k i : ℕ) → List Kind → List Bytes → Checked (List ℤ)
check_fields k i [] [] = good []
check_fields k i [] (f ∷ fs) = faulty (reported 21 k 0)
check_fields k i (t ∷ ts) [] = faulty (reported 21 k 0)
check_fields k i (t ∷ ts) (f ∷ fs) = and_then (check_field k i t f) (λ z. and_then (check_fields k (suc i) ts fs) (λ zs. good (z ∷ zs)))

-- a line that is ended: its letter and the values of its fields
abbrev pub check_line : (k : ℕ) → Bytes → (ℕ → List Kind) → Bytes → Checked (ℕ × List ℤ)
check_line k ls ts bs = let p = split 9 bs in and_then (check_field k 1 (one_of ls) p.0) (λ l. cond (length p.1 == length (ts (unsigned_abs l))) (and_then (check_fields k 2 (ts (unsigned_abs l)) p.1) (λ zs. good (unsigned_abs l, zs))) (faulty (reported 21 k 0)))

-- the size of the value at a place
abbrev pub size_at : List ℤ → ℕ → ℕ
size_at zs i = unsigned_abs (slice_index_or zs i (pos 0))

-- what is computed is what the format's own terms say
abbrev pub LineFaultsAreExact : Type 0
LineFaultsAreExact = (k : ℕ) (ls : Bytes) (ts : ℕ → List Kind) (l more : Bytes) (f : Reported) → Without 10 l → (check_line k ls ts l ≡ faulty f) ↔ ((n : ℕ) × (i : ℕ) × (f ≡ reported n k i) × Misread ls ts (l ++ (10 ∷ more)) n i)
