-- What the lines of a book file say, as the code holds it.
use Rattle.std.specs.Prelude.{◌≡◌, ℕ, List, [], ◌∷◌, length, ℤ, pos, Ok, Err, Result, MatchResult}
use Rattle.books.specs.declared.record.Record.{Record}
use Rattle.fields.specs.declared.faults.FieldFault.{FieldFault}
use Rattle.fields.specs.declared.faults.LineFault.{LineFault}
use Rattle.fields.specs.Numerals.{Bytes}
use Rattle.fields.specs.Lines.{split}
use Rattle.fields.specs.Kinds.{Kind}
use Rattle.fields.specs.Checking.{check_fields, check_line}
use Rattle.fields.specs.Checking.Checked.{good, faulty}
use Rattle.fields.specs.Views.{reported_field, reported_line}
use Rattle.books.specs.declared.sizes.Sizes.{Sizes}
use Rattle.bookfile.specs.declared.entries.Entry.{Entry}
use Rattle.bookfile.specs.declared.entries.Entry.TheVariants.{Outcome, Worth, End}
use Rattle.bookfile.specs.File.{may_stand, form, next_letters, next_form}
use Rattle.bookfile.specs.File.State.{begin}

-- the values after B, R and C
abbrev pub size_values : Sizes → List ℤ
size_values z = pos z.conditions ∷ pos z.remedies ∷ pos z.parts ∷ []

abbrev pub record_values : Record → List ℤ
record_values e = pos e.condition ∷ pos e.remedy ∷ pos e.next ∷ pos e.share ∷ e.amount ∷ []

abbrev pub worth_values : ℕ × ℤ → List ℤ
worth_values p = pos p.0 ∷ p.1 ∷ []

-- the letter and the values of a line
abbrev pub entry_values : Entry → ℕ × List ℤ
entry_values (Outcome e) = (82, record_values e)
entry_values (Worth s z) = (67, worth_values (s, z))
entry_values End = (69, [])

-- the first of these fields begins some bytes, and the others follow it
abbrev pub Left : Bytes → List Bytes → Type 0
Left rest [] = Unit {0}
Left rest (f ∷ fs) = split 9 rest ≡ (f, fs)

-- what is answered of the fields of line k from place `at` on, where the second field of a line comes next
abbrev pub FieldsRead : {A : Type 0} → List Kind → (A → List ℤ) → (k at : ℕ) → Bytes → Result A FieldFault → Type 0
FieldsRead ts values k at rest r = (fs : List Bytes) → Left rest fs → at ≡ 2 → length fs ≡ length ts → MatchResult r (λ a. check_fields k 2 ts fs ≡ good (values a)) (λ e. check_fields k 2 ts fs ≡ faulty (reported_field e))

-- the first line, of number k, and a later one, where some worths stand
abbrev pub SizesRead : (k : ℕ) → Bytes → Result Sizes LineFault → Type 0
SizesRead k t (Ok z) = check_line k (may_stand begin) (form begin) t ≡ good (66, size_values z)
SizesRead k t (Err e) = check_line k (may_stand begin) (form begin) t ≡ faulty (reported_line e)

abbrev pub EntryRead : Sizes → (worths k : ℕ) → Bytes → Result Entry LineFault → Type 0
EntryRead z n k t (Ok y) = check_line k (next_letters z.conditions n) (next_form z.conditions z.remedies z.parts) t ≡ good (entry_values y)
EntryRead z n k t (Err e) = check_line k (next_letters z.conditions n) (next_form z.conditions z.remedies z.parts) t ≡ faulty (reported_line e)
