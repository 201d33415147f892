-- The file of a list book, line by line, and how it is put into a buffer.
use Rattle.std.specs.Prelude.{◌≡◌, ℕ, List, [], ◌∷◌, ◌++◌, length, take, map, ℤ}
use Rattle.std.specs.List.{enumerate_from}
use Rattle.model.specs.Tables.{KeptPast}
use Rattle.books.specs.declared.list.ListBook.{ListBook}
use Rattle.books.specs.declared.record.Record.{Record}
use Rattle.fields.specs.Numerals.{Bytes}
use Rattle.fields.specs.Lines.{line}
use Rattle.fields.specs.Checking.Checked.{good}
use Rattle.bookfile.specs.File.{WrittenBook, size_fields, record_fields, worth_fields}
use Rattle.bookfile.specs.FileFaults.{HasRoom, Reads}

-- what a list book stands on
abbrev pub book_of : ListBook → WrittenBook
book_of b = record { conditions = b.sizes.conditions; remedies = b.sizes.remedies; parts = b.sizes.parts; records = b.listing.records.now; worths = b.worths.now }

-- the R line (82) of a record, the C line (67) of a condition and its worth
abbrev pub record_line : Record → Bytes
record_line e = line 82 (record_fields e)

abbrev pub worth_line : ℕ × ℤ → Bytes
worth_line p = line 67 (worth_fields p.0 p.1)

-- all lines: the first (66), those of the records, those of the worths, the last (69)
unfoldable pub lines_of : WrittenBook → List Bytes
lines_of b = line 66 (size_fields b) ∷ (map record_line b.records ++ (map worth_line (enumerate_from 0 b.worths) ++ (line 69 [] ∷ [])))

-- a buffer begins with some bytes, of which there are n, and keeps what is past them
pub record BeginsWith (bs : Bytes) (n : ℕ) (before after : Bytes) : Type 0 where
  pub long : n ≡ length bs
  pub begins : take n after ≡ bs
  pub kept : KeptPast n before after

-- these bytes are read as this book wherever it has room
abbrev pub ReadBack : WrittenBook → Bytes → Type 0
ReadBack b bs = (m w : ℕ) → HasRoom m w b → Reads m w bs (good b)
