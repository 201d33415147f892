-- The whole input of `quote`: what it asks, or its first fault.
use Rattle.std.specs.Prelude.{◌≡◌, ℕ, ◌<◌, ◌≤◌, cond, ◌↔◌, List, [], ◌∷◌, ◌++◌, length, ℤ, ◌==◌, nat_lt}
use Rattle.fields.specs.Numerals.{Bytes, numeral}
use Rattle.fields.specs.Lines.{line, split}
use Rattle.fields.specs.Kinds.{Misread}
use Rattle.fields.specs.Checking.{Reported, reported, Checked, and_then, size_at, check_line}
use Rattle.fields.specs.Checking.Checked.{good, faulty}
use Rattle.bookfile.specs.File.{WrittenBook, render}
use Rattle.bookfile.specs.File.State.{begin}
use Rattle.bookfile.specs.FileFaults.{LawfulBook, HasRoom, Faulty}
use Rattle.bookfile.specs.Reading.{read_lines}
use Rattle.quoting.specs.declared.question.Asked.{Asked}
use Rattle.quoting.specs.declared.question.By.{By}
use Rattle.quoting.specs.declared.question.By.TheVariants.{Mean, Floor}
use Rattle.quoting.specs.Asking.{letter_of, question_letters, after_letter}

-- what is asked: so many visits, by a criterion, of a book
pub record Request : Type 0 where
  pub visits : ℕ
  pub by : By
  pub book : WrittenBook

-- the Q line (81), and the whole input: the Q line before a book file
abbrev pub question_line : ℕ → By → Bytes
question_line n c = line 81 (numeral n ∷ (letter_of c ∷ []) ∷ [])

abbrev pub input_of : Request → Bytes
input_of a = question_line a.visits a.by ++ render a.book

-- 1 to 48 visits, and a lawful book of 2,048 records and 32 worths at most
pub record WellAsked (a : Request) : Type 0 where
  pub some_visit : 1 ≤ a.visits
  pub few_visits : a.visits ≤ 48
  pub lawful : LawfulBook a.book
  pub room : HasRoom 2048 32 a.book

-- some bytes begin with a Q line in order, which asks this, and these bytes are left
pub record Questioned (bs : Bytes) (q : Asked) (rest : Bytes) : Type 0 where
  pub some_visit : 1 ≤ q.visits
  pub few_visits : q.visits ≤ 48
  pub whole : bs ≡ question_line q.visits q.by ++ rest

-- the Q line, which is line 0, is at fault
pub record QuestionFaulty (bs : Bytes) (f : Reported) : Type 0 where
  pub number : ℕ
  pub field : ℕ
  pub misread : Misread question_letters after_letter bs number field
  pub fault : f ≡ reported number 0 field

-- the Q line is in order, and the book file after it, whose lines count from 1, is at fault
pub record FileFaulty (bs : Bytes) (f : Reported) : Type 0 where
  pub question : Asked
  pub rest : Bytes
  pub questioned : Questioned bs question rest
  pub fault : Faulty 2048 32 rest f

-- the first fault: more than 32,768 bytes, then the Q line, then the book file
pub data AskFaulty (bs : Bytes) : Reported → Type 0 where
  too_long : 32768 < length bs → AskFaulty bs (reported 25 0 0)
  in_question : (f : Reported) → length bs ≤ 32768 → QuestionFaulty bs f → AskFaulty bs f
  in_file : (f : Reported) → length bs ≤ 32768 → FileFaulty bs f → AskFaulty bs f

-- what the bytes ask, or their first fault
abbrev pub Asks : Bytes → Checked Request → Type 0
Asks bs (good a) = (length bs ≤ 32768) × (bs ≡ input_of a) × WellAsked a
Asks bs (faulty f) = AskFaulty bs f

-- the same, computed: the criterion of a letter, and what the values of a Q line and the book after it ask
abbrev pub named_by : (letter : ℕ) → By
named_by l = cond (l == 77) Mean Floor

abbrev pub request_of : List ℤ → WrittenBook → Request
request_of zs b = record { visits = size_at zs 0; by = named_by (size_at zs 1); book = b }

-- of the first line and the lines after it
abbrev pub ask_lines : Bytes → List Bytes → Checked Request
ask_lines l [] = faulty (reported 26 0 0)
ask_lines l (l' ∷ ls) = and_then (check_line 0 question_letters after_letter l) (λ p. and_then (read_lines 2048 32 begin 1 l' ls) (λ b. good (request_of p.1 b)))

abbrev pub ask : Bytes → Checked Request
ask bs = let p = split 10 bs in cond (nat_lt 32768 (length bs)) (faulty (reported 25 0 0)) (ask_lines p.0 p.1)

-- what is computed is what the format's own terms say
abbrev pub AskingIsExact : Type 0
AskingIsExact = (bs : Bytes) (a : Checked Request) → Asks bs a ↔ (a ≡ ask bs)
