-- What a field holds, and how a fault is reported.
use Rattle.std.specs.Prelude.{◌≡◌, ℕ, ◌+◌, ◌-◌, ◌^◌, ◌<◌, min, Bool, true, false, not, ◌&&◌, ◌||◌, List, [], ◌∷◌, ◌++◌, length, ℤ, pos, Ok, Err, Result, ◌==◌, nat_le, refl}
use Rattle.std.specs.Char.{is_ascii_alphabetic}
use Rattle.fields.specs.Numerals.{Bytes}
use Rattle.fields.specs.Lines.{split}
use Rattle.fields.specs.Faults.{field_fault_number, field_fault_places, line_fault_number, line_fault_places}
use Rattle.fields.specs.Checking.{Reported, reported, Checked}
use Rattle.fields.specs.Checking.Checked.{good, faulty}
use Rattle.fields.specs.declared.faults.FieldFault.{FieldFault}
use Rattle.fields.specs.declared.faults.LineFault.{LineFault}
use Rattle.fields.specs.declared.faults.LineFault.TheVariants.{Unended, Field as OfField}
use Rattle.fields.specs.declared.parts.Field.{Field}
use Rattle.fields.specs.declared.parts.Field.TheVariants.{Letter, Number, Other}

-- the bytes of a field
abbrev pub bytes_of : Field → Bytes
bytes_of (Letter c) = c ∷ []
bytes_of (Number p) = p.now
bytes_of (Other p) = p.now

-- a single ASCII letter
abbrev pub lone_letter : Bytes → Bool
lone_letter [] = false
lone_letter (x ∷ []) = is_ascii_alphabetic x
lone_letter (x ∷ y ∷ ys) = false

-- begins as a number does, with a digit or a minus
abbrev pub numeric : Bytes → Bool
numeric [] = false
numeric (x ∷ xs) = (nat_le 48 x && nat_le x 57) || x == 45

-- a field is taken for what its bytes are: a letter just where they are a single ASCII letter,
-- a number just where they begin as one, else another part
abbrev pub rightly_told : Field → Bool
rightly_told (Letter c) = is_ascii_alphabetic c
rightly_told (Number p) = numeric p.now
rightly_told (Other p) = not (lone_letter p.now) && not (numeric p.now)

-- a fault by its number, its line and its field
abbrev pub reported_field : FieldFault → Reported
reported_field e = reported (field_fault_number e) (field_fault_places e).0 (field_fault_places e).1

abbrev pub reported_line : LineFault → Reported
reported_line e = reported (line_fault_number e) (line_fault_places e).0 (line_fault_places e).1

-- a fault of a field keeps its number and places as a fault of its line
pub converted_alike : (e : FieldFault) → reported_line (OfField e) ≡ reported_field e
converted_alike e = refl

-- what a call answers of a field is what is computed of it
abbrev pub Answers : Checked ℤ → Result ℕ FieldFault → Type 0
Answers x (Ok n) = x ≡ good (pos n)
Answers x (Err e) = x ≡ faulty (reported_field e)

abbrev pub AnswersSigned : Checked ℤ → Result ℤ FieldFault → Type 0
AnswersSigned x (Ok z) = x ≡ good z
AnswersSigned x (Err e) = x ≡ faulty (reported_field e)

-- some bytes begin with line k of this text, and these bytes are left
pub record LineCut (k : ℕ) (bs : Bytes) (n : ℕ) (t left : Bytes) : Type 0 where
  pub numbered : n ≡ k
  pub first : t ≡ (split 10 bs).0
  pub whole : bs ≡ t ++ (10 ∷ left)
  pub later : (split 10 bs).1 ≡ (split 10 left).0 ∷ (split 10 left).1
  pub shorter : length left < length bs

-- line k is not ended
pub record NoLine (k : ℕ) (bs : Bytes) (e : LineFault) : Type 0 where
  pub fault : e ≡ Unended k
  pub unended : (split 10 bs).1 ≡ []

-- the next field of line k, at place i where these bytes are left
pub record CutField (k i : ℕ) (bs : Bytes) (n at : ℕ) (f : Field) : Type 0 where
  pub line_is : n ≡ k
  pub place_is : at ≡ i
  pub bytes_are : bytes_of f ≡ (split 9 bs).0
  pub as_told : rightly_told f ≡ true

-- the fields after it: they stand one place on, as far as places are counted, and are the parts left
pub record LeftAfter (k i : ℕ) (bs : Bytes) (n at : ℕ) (left : Bytes) : Type 0 where
  pub line_is : n ≡ k
  pub place_is : at ≡ min (i + 1) (2 ^ 64 - 1)
  pub parts_are : (f : Bytes) (fs : List Bytes) → (split 9 bs).1 ≡ f ∷ fs → split 9 left ≡ (f, fs)
  pub none_left : (split 9 bs).1 ≡ [] → left ≡ []
