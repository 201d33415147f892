-- What the calls that read and write a book file answer, and what they leave in the lent tables.
use Rattle.std.specs.Prelude.{◌≡◌, ℕ, ◌<◌, ◌≤◌, List, length, take, ℤ, Ok, Err, Result}
use Rattle.model.specs.Tables.{KeptPast}
use Rattle.books.specs.declared.record.Record.{Record}
use Rattle.fields.specs.Numerals.{Bytes}
use Rattle.fields.specs.Checking.Checked.{good, faulty}
use Rattle.bookfile.specs.declared.read.ReadBook.{ReadBook}
use Rattle.bookfile.specs.declared.faults.FileFault.{FileFault}
use Rattle.bookfile.specs.Faults.{reported_file}
use Rattle.bookfile.specs.File.{WrittenBook, render}
use Rattle.bookfile.specs.FileFaults.{Reads}
use Rattle.bookfile.specs.Reading.{reading}

-- the lent list and table hold a book that was read, and keep what is past it
pub record Filled (b : WrittenBook) (r : ReadBook) (es es' : List Record) (zs zs' : List ℤ) : Type 0 where
  pub conditions : r.sizes.conditions ≡ b.conditions
  pub remedies : r.sizes.remedies ≡ b.remedies
  pub parts : r.sizes.parts ≡ b.parts
  pub count : r.count ≡ length b.records
  pub records : take r.count es' ≡ b.records
  pub records_kept : KeptPast r.count es es'
  pub worths : take r.sizes.conditions zs' ≡ b.worths
  pub worths_kept : KeptPast r.sizes.conditions zs zs'

-- es and zs before, es' and zs' after
abbrev pub ReadAnswers : Bytes → Result ReadBook FileFault → (es es' : List Record) (zs zs' : List ℤ) → Type 0
ReadAnswers bs (Ok r) es es' zs zs' = (b : WrittenBook) × Reads (length es) (length zs) bs (good b) × Filled b r es es' zs zs'
ReadAnswers bs (Err f) es es' zs zs' = Reads (length es) (length zs) bs (faulty (reported_file f)) × (es' ≡ es) × (zs' ≡ zs)

-- how many bytes were written to a buffer, or the refusal of one that is too short
abbrev pub WriteAnswers : {E : Type 0} (short : E) → WrittenBook → Result ℕ E → (buffer buffer' : Bytes) → Type 0
WriteAnswers short b (Ok n) u u' = (n ≡ length (render b)) × (n ≤ length u) × (take n u' ≡ render b) × KeptPast n u u'
WriteAnswers short b (Err f) u u' = (f ≡ short) × (length u < length (render b)) × (u' ≡ u)

-- some bytes are read to a book, and this tells its sizes and how many records it lists
pub record Holds (m w : ℕ) (bs : Bytes) (l : WrittenBook) (b : ReadBook) : Type 0 where
  pub same : reading m w bs ≡ good l
  pub conditions : b.sizes.conditions ≡ l.conditions
  pub remedies : b.sizes.remedies ≡ l.remedies
  pub parts : b.sizes.parts ≡ l.parts
  pub count : b.count ≡ length l.records

-- the first pass, before anything is written, and the second, as computed
abbrev pub CheckAnswers : (m w : ℕ) → Bytes → Result ReadBook FileFault → Type 0
CheckAnswers m w bs (Ok b) = (l : WrittenBook) × Holds m w bs l b
CheckAnswers m w bs (Err f) = reading m w bs ≡ faulty (reported_file f)

abbrev pub FillAnswers : Bytes → Result ReadBook FileFault → (es es' : List Record) (zs zs' : List ℤ) → Type 0
FillAnswers bs (Ok r) es es' zs zs' = ReadAnswers bs (Ok r) es es' zs zs'
FillAnswers bs (Err f) es es' zs zs' = reading (length es) (length zs) bs ≡ faulty (reported_file f)
