-- The two parts of an input, a book file and a script, and what the lines of the script say.
use Rattle.std.specs.Prelude.{ℕ, suc, Bool, false, cond, List, [], ◌∷◌, ◌++◌, length, ◌==◌}
use Rattle.fields.specs.Numerals.{Bytes}
use Rattle.fields.specs.Lines.{split}
use Rattle.fields.specs.Checking.{reported, Checked}
use Rattle.fields.specs.Checking.Checked.{faulty}
use Rattle.script.specs.Orders.{Order}
use Rattle.script.specs.Forms.{check_order}

-- a line by its number, and what it says or the fault that is found in it
pub record Said : Type 0 where
  pub number : ℕ
  pub order : Checked Order

abbrev pub said : ℕ → Checked Order → Said
said k x = record { number = k; order = x }

-- a line that begins with E (69): the first of them ends the book's part
abbrev pub ends_book : Bytes → Bool
ends_book [] = false
ends_book (x ∷ xs) = x == 69

-- how many newlines (10) stand in some bytes
abbrev pub newlines : Bytes → ℕ
newlines bs = length (split 10 bs).1

-- In what follows a line l and the lines after it are given, of which the last is not ended.

-- the bytes of the book's part; all of them where no line ends it
abbrev pub book_lines : (l : Bytes) → List Bytes → Bytes
book_lines l [] = l
book_lines l (l' ∷ ls) = cond (ends_book l) (l ++ (10 ∷ [])) (l ++ (10 ∷ book_lines l' ls))

-- what the lines of a script say, from line k on; the last one counts where it has bytes
abbrev pub said_lines : (k : ℕ) (l : Bytes) → List Bytes → List Said
said_lines k [] [] = []
said_lines k (x ∷ l) [] = said k (faulty (reported 26 k 0)) ∷ []
said_lines k l (l' ∷ ls) = said k (check_order k l) ∷ said_lines (suc k) l' ls

-- the same of the lines after the book's part, where l is line k
abbrev pub lines_after : (k : ℕ) (l : Bytes) → List Bytes → List Said
lines_after k l [] = []
lines_after k l (l' ∷ ls) = cond (ends_book l) (said_lines (suc k) l' ls) (lines_after (suc k) l' ls)

-- of an input: its book's part, and what its script says
abbrev pub book_part : Bytes → Bytes
book_part bs = let p = split 10 bs in book_lines p.0 p.1

abbrev pub script_after : (k : ℕ) → Bytes → List Said
script_after k bs = let p = split 10 bs in lines_after k p.0 p.1

abbrev pub script_of : Bytes → List Said
script_of bs = script_after 1 bs

-- what some bytes say as a script, from line k on
abbrev pub script_from : (k : ℕ) → Bytes → List Said
script_from k bs = let p = split 10 bs in said_lines k p.0 p.1
