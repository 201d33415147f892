-- What reading a book file must answer, in the format's own terms.
use Rattle.std.specs.Prelude.{◌≡◌, ℕ, suc, ◌≤◌, ◌⊎◌, List, [], ◌∷◌, ◌++◌, length, ℤ, Ok, slice_index_or}
use Rattle.books.specs.declared.record.Record.{Record}
use Rattle.books.specs.Entries.{Rising, no_record}
use Rattle.books.specs.Making.{ListChecked}
use Rattle.fields.specs.Numerals.{Bytes, numeral}
use Rattle.fields.specs.Lines.{Starts}
use Rattle.fields.specs.Kinds.{LetterOf, AllGood, Misread}
use Rattle.fields.specs.Checking.{Reported, reported, Checked}
use Rattle.fields.specs.Checking.Checked.{good, faulty}
use Rattle.bookfile.specs.File.{WrittenBook, record_fields, opening, render, line_count, may_stand, form}
use Rattle.bookfile.specs.File.State.{begin, middle}

-- a list book that making accepts
abbrev pub LawfulBook : WrittenBook → Type 0
LawfulBook b = ListChecked b.conditions b.remedies b.parts b.records b.worths (Ok tt)

abbrev pub more_worths : WrittenBook → List ℤ → WrittenBook
more_worths b zs = record { conditions = b.conditions; remedies = b.remedies; parts = b.parts; records = b.records; worths = b.worths ++ zs }

-- one that some more worths make such a book
abbrev pub Begun : WrittenBook → Type 0
Begun b = (zs : List ℤ) × LawfulBook (more_worths b zs)

-- m records and w worths have room
pub record HasRoom (m w : ℕ) (b : WrittenBook) : Type 0 where
  pub for_records : length b.records ≤ m
  pub for_worths : length b.worths ≤ w

-- the B, R and C lines of a book, before some bytes
pub record Opens (m w : ℕ) (b : WrittenBook) (rest bs : Bytes) : Type 0 where
  pub begun : Begun b
  pub room : HasRoom m w b
  pub whole : bs ≡ opening b ++ rest

-- an R line rises above the last, a C line is the one that is due
abbrev pub InTurn : WrittenBook → ℕ → List Bytes → Type 0
InTurn b l fs = (l ≡ 82 → (e : Record) × (fs ≡ record_fields e) × ((k : ℕ) → suc k ≡ length b.records → Rising (slice_index_or b.records k no_record) e)) × (l ≡ 67 → slice_index_or fs 0 [] ≡ numeral (length b.worths))

abbrev pub Full : (m w : ℕ) → WrittenBook → ℕ → Type 0
Full m w b l = ((l ≡ 82) × (m ≤ length b.records)) ⊎ ((l ≡ 67) × (w ≤ length b.worths))

-- some bytes begin with a line that may stand after a book's, with fields in order
pub record GoesOn (b : WrittenBook) (l : ℕ) (fs : List Bytes) (bs : Bytes) : Type 0 where
  pub line : Starts bs (l ∷ []) fs
  pub letter : LetterOf (may_stand (middle b)) l
  pub fields : AllGood (form (middle b) l) fs

-- the lines before it could stand, and this is the first check that applies to the line
pub data Faulty (m w : ℕ) (bs : Bytes) : Reported → Type 0 where
  first_line : (n i : ℕ) → Misread (may_stand begin) (form begin) bs n i → Faulty m w bs (reported n 1 i)
  later_line : (b : WrittenBook) (rest : Bytes) (n i : ℕ) → Opens m w b rest bs → Misread (may_stand (middle b)) (form (middle b)) rest n i → Faulty m w bs (reported n (suc (line_count b)) i)
  out_of_order : (b : WrittenBook) (rest : Bytes) (l : ℕ) (fs : List Bytes) → Opens m w b rest bs → GoesOn b l fs rest → ¬ InTurn b l fs → Faulty m w bs (reported 24 (suc (line_count b)) 0)
  no_space : (b : WrittenBook) (rest : Bytes) (l : ℕ) (fs : List Bytes) → Opens m w b rest bs → GoesOn b l fs rest → InTurn b l fs → Full m w b l → Faulty m w bs (reported 25 (suc (line_count b)) 0)
  after_end : (b : WrittenBook) (x : ℕ) (rest : Bytes) → LawfulBook b → HasRoom m w b → bs ≡ render b ++ (x ∷ rest) → Faulty m w bs (reported 26 (suc (suc (line_count b))) 0)

-- accepted exactly where the bytes are those of a lawful list book that has room
abbrev pub Reads : (m w : ℕ) → Bytes → Checked WrittenBook → Type 0
Reads m w bs (good b) = (bs ≡ render b) × LawfulBook b × HasRoom m w b
Reads m w bs (faulty f) = Faulty m w bs f
