-- The book file: its bytes, and the lines that may stand next.
use Rattle.std.specs.Prelude.{ℕ, suc, ◌+◌, ◌-◌, cond, List, [], ◌∷◌, ◌++◌, length, ℤ, ◌==◌, nat_le}
use Rattle.books.specs.declared.record.Record.{Record}
use Rattle.fields.specs.Numerals.{Bytes, numeral, signed}
use Rattle.fields.specs.Lines.{line}
use Rattle.fields.specs.Kinds.{Kind}
use Rattle.fields.specs.Kinds.Kind.{from_to, either_way}

-- what a list book is made from, or as much of it as a part of a file has
pub record WrittenBook : Type 0 where
  pub conditions : ℕ
  pub remedies : ℕ
  pub parts : ℕ
  pub records : List Record
  pub worths : List ℤ

abbrev pub size_fields : WrittenBook → List Bytes
size_fields b = numeral b.conditions ∷ numeral b.remedies ∷ numeral b.parts ∷ []

abbrev pub record_fields : Record → List Bytes
record_fields e = numeral e.condition ∷ numeral e.remedy ∷ numeral e.next ∷ numeral e.share ∷ signed e.amount ∷ []

-- the worth of condition s
abbrev pub worth_fields : ℕ → ℤ → List Bytes
worth_fields s z = numeral s ∷ signed z ∷ []

-- the R lines (82); the C lines (67), from condition s
abbrev pub record_lines : List Record → Bytes
record_lines [] = []
record_lines (e ∷ es) = line 82 (record_fields e) ++ record_lines es

abbrev pub worth_lines : ℕ → List ℤ → Bytes
worth_lines s [] = []
worth_lines s (z ∷ zs) = line 67 (worth_fields s z) ++ worth_lines (suc s) zs

-- the B line (66) and the R and C lines; the whole file, with its E line (69)
abbrev pub opening : WrittenBook → Bytes
opening b = line 66 (size_fields b) ++ (record_lines b.records ++ worth_lines 0 b.worths)

abbrev pub render : WrittenBook → Bytes
render b = opening b ++ line 69 []

-- how many lines are B, R or C lines
abbrev pub line_count : WrittenBook → ℕ
line_count b = 1 + length b.records + length b.worths

-- what was read so far: nothing; a B line and some R and C lines; all with the E line
pub data State : Type 0 where
  begin : State
  middle : WrittenBook → State
  finished : WrittenBook → State

-- the letters of the lines that may stand next: R or C before the first worth, C up to the last, then E
abbrev pub next_letters : (conditions worths : ℕ) → Bytes
next_letters c n = cond (nat_le c n) (69 ∷ []) (cond (n == 0) (82 ∷ 67 ∷ []) (67 ∷ []))

abbrev pub may_stand : State → Bytes
may_stand begin = 66 ∷ []
may_stand (middle b) = next_letters b.conditions (length b.worths)
may_stand (finished b) = []

-- an amount or a worth: a million at most, either way
abbrev pub money : Kind
money = either_way 1000000

-- what must follow B, R and C
abbrev pub size_form : List Kind
size_form = from_to 1 32 ∷ from_to 1 8 ∷ from_to 1 1000 ∷ []

abbrev pub record_form : (conditions remedies parts : ℕ) → List Kind
record_form c r p = from_to 0 (c - 1) ∷ from_to 0 (r - 1) ∷ from_to 0 (c - 1) ∷ from_to 1 p ∷ money ∷ []

abbrev pub worth_form : (conditions : ℕ) → List Kind
worth_form c = from_to 0 (c - 1) ∷ money ∷ []

-- what must follow each letter
abbrev pub next_form : (conditions remedies parts : ℕ) → ℕ → List Kind
next_form c r p l = cond (l == 82) (record_form c r p) (cond (l == 67) (worth_form c) [])

abbrev pub form : State → ℕ → List Kind
form begin l = size_form
form (middle b) l = next_form b.conditions b.remedies b.parts l
form (finished b) l = []
