-- Reading a book file line by line, computed.
use Rattle.std.specs.Prelude.{◌≡◌, ℕ, suc, ◌-◌, Bool, cond, ◌&&◌, ◌||◌, ◌↔◌, List, [], ◌∷◌, ◌++◌, length, ℤ, pos, ◌==◌, nat_lt, slice_index_or}
use Rattle.books.specs.declared.record.Record.{Record}
use Rattle.books.specs.Entries.{no_record}
use Rattle.fields.specs.Numerals.{Bytes}
use Rattle.fields.specs.Lines.{split}
use Rattle.fields.specs.Checking.{reported, Checked, and_then, size_at, check_line}
use Rattle.fields.specs.Checking.Checked.{good, faulty}
use Rattle.bookfile.specs.File.{WrittenBook, render, State, may_stand, form}
use Rattle.bookfile.specs.File.State.{begin, middle, finished}
use Rattle.bookfile.specs.FileFaults.{LawfulBook, HasRoom, Reads}

abbrev pub rises : Record → Record → Bool
rises d e = nat_lt d.condition e.condition || (d.condition == e.condition && (nat_lt d.remedy e.remedy || (d.remedy == e.remedy && nat_lt d.next e.next)))

-- the record rises above the last one, if there is one
abbrev pub rises_after : List Record → Record → Bool
rises_after es e = length es == 0 || rises (slice_index_or es (length es - 1) no_record) e

-- the values of an R line as a record, those of a B line as a book of these sizes
abbrev pub record_from : List ℤ → Record
record_from zs = record { condition = size_at zs 0; remedy = size_at zs 1; next = size_at zs 2; share = size_at zs 3; amount = slice_index_or zs 4 (pos 0) }

abbrev pub sized : List ℤ → WrittenBook
sized zs = record { conditions = size_at zs 0; remedies = size_at zs 1; parts = size_at zs 2; records = []; worths = [] }

abbrev pub plus_record : WrittenBook → Record → WrittenBook
plus_record b e = record { conditions = b.conditions; remedies = b.remedies; parts = b.parts; records = b.records ++ (e ∷ []); worths = b.worths }

abbrev pub plus_worth : WrittenBook → ℤ → WrittenBook
plus_worth b z = record { conditions = b.conditions; remedies = b.remedies; parts = b.parts; records = b.records; worths = b.worths ++ (z ∷ []) }

-- m records and w worths have room
module _ (m w : ℕ) where
  -- 24, then 25
  abbrev pub enter_record : WrittenBook → (k : ℕ) → Record → Checked State
  enter_record b k e = cond (rises_after b.records e) (cond (nat_lt (length b.records) m) (good (middle (plus_record b e))) (faulty (reported 25 k 0))) (faulty (reported 24 k 0))

  abbrev pub enter_worth : WrittenBook → (k s : ℕ) → ℤ → Checked State
  enter_worth b k s z = cond (s == length b.worths) (cond (nat_lt (length b.worths) w) (good (middle (plus_worth b z))) (faulty (reported 25 k 0))) (faulty (reported 24 k 0))

  -- line k, by its letter and values
  abbrev pub enter_line : State → (k : ℕ) → ℕ × List ℤ → Checked State
  enter_line begin k p = good (middle (sized p.1))
  enter_line (middle b) k p = cond (p.0 == 82) (enter_record b k (record_from p.1)) (cond (p.0 == 67) (enter_worth b k (size_at p.1 0) (slice_index_or p.1 1 (pos 0))) (good (finished b)))
  enter_line (finished b) k p = faulty (reported 26 k 0)

  abbrev pub read_line : State → (k : ℕ) → Bytes → Checked State
  read_line begin k bs = and_then (check_line k (may_stand begin) (form begin) bs) (enter_line begin k)
  read_line (middle b) k bs = and_then (check_line k (may_stand (middle b)) (form (middle b)) bs) (enter_line (middle b) k)
  read_line (finished b) k bs = faulty (reported 26 k 0)

  -- what stands after the last newline
  abbrev pub read_rest : State → (k : ℕ) → Bytes → Checked WrittenBook
  read_rest begin k bs = faulty (reported 26 k 0)
  read_rest (middle b) k bs = faulty (reported 26 k 0)
  read_rest (finished b) k [] = good b
  read_rest (finished b) k (x ∷ bs) = faulty (reported 26 k 0)

  abbrev pub read_lines : State → (k : ℕ) → Bytes → List Bytes → Checked WrittenBook
  read_lines s k l [] = read_rest s k l
  read_lines s k l (l' ∷ ls) = and_then (read_line s k l) (λ s'. read_lines s' (suc k) l' ls)

  -- some bytes, from line k on; the whole file
  abbrev pub read_on : State → (k : ℕ) → Bytes → Checked WrittenBook
  read_on s k bs = let p = split 10 bs in read_lines s k p.0 p.1

  abbrev pub reading : Bytes → Checked WrittenBook
  reading bs = read_on begin 1 bs

-- what is computed is what the format's own terms say
abbrev pub ReadingIsExact : Type 0
ReadingIsExact = (m w : ℕ) (bs : Bytes) (a : Checked WrittenBook) → Reads m w bs a ↔ (a ≡ reading m w bs)

-- a file read and written is the same bytes, a book written and read the same book
abbrev pub ReadThenWritten : Type 0
ReadThenWritten = (m w : ℕ) (bs : Bytes) (b : WrittenBook) → reading m w bs ≡ good b → render b ≡ bs

abbrev pub WrittenThenRead : Type 0
WrittenThenRead = (m w : ℕ) (b : WrittenBook) → LawfulBook b → HasRoom m w b → reading m w (render b) ≡ good b

-- no two lawful books have one file, and no two files are accepted for one book
abbrev pub OneBookAFile : Type 0
OneBookAFile = (b b' : WrittenBook) → LawfulBook b → LawfulBook b' → render b ≡ render b' → b ≡ b'

abbrev pub OneFileABook : Type 0
OneFileABook = (m w : ℕ) (bs bs' : Bytes) (b : WrittenBook) → Reads m w bs (good b) → Reads m w bs' (good b) → bs ≡ bs'
