-- What an order is as a line, and which bytes are the book's part of an input, in the format's own terms.
use Rattle.std.specs.Prelude.{◌≡◌, ℕ, ◌≤◌, ◌↔◌, ◌⊎◌, List, [], ◌∷◌, ◌++◌, map, codes, slice_index, unsigned_abs, EachIndex}
use Rattle.std.specs.List.{All}
use Rattle.fields.specs.Numerals.{Bytes, numeral, signed}
use Rattle.fields.specs.Lines.{joined, Without}
use Rattle.fields.specs.Checking.Checked.{good}
use Rattle.quoting.specs.Asking.{letter_of}
use Rattle.following.specs.declared.call.RoundCall.TheVariants.{Treat, Report, Settle}
use Rattle.script.specs.Orders.{Order}
use Rattle.script.specs.Orders.Order.{bars, surcharges, prolongs, lifts, plans, judges, begins, turns}
use Rattle.script.specs.Forms.{check_order}
use Rattle.script.specs.Parts.{book_part}

-- a word and fields, parted by tabs (9)
abbrev pub after_word : Bytes → List Bytes → Bytes
after_word w fs = joined 9 w fs

-- an order as it is written: M (77) or F (70) names the criterion
abbrev pub order_text : Order → Bytes
order_text (bars s r f l) = after_word (codes "bar") (numeral s ∷ numeral r ∷ numeral f ∷ numeral l ∷ [])
order_text (surcharges r a f l) = after_word (codes "surcharge") (numeral r ∷ signed a ∷ numeral f ∷ numeral l ∷ [])
order_text (prolongs p l) = after_word (codes "prolong") (numeral p ∷ numeral l ∷ [])
order_text (lifts p) = after_word (codes "lift") (numeral p ∷ [])
order_text (plans c h) = after_word (codes "plan") ((letter_of c ∷ []) ∷ numeral h ∷ [])
order_text (judges c h rs) = after_word (codes "judge") ((letter_of c ∷ []) ∷ numeral h ∷ map numeral rs)
order_text (begins h s) = after_word (codes "begin") (numeral h ∷ numeral s ∷ [])
order_text (turns Treat) = codes "treat"
order_text (turns (Report n)) = after_word (codes "report") (numeral n ∷ [])
order_text (turns Settle) = codes "settle"

-- what can be written: numbers up to 4,294,967,295, an amount up to it either way, remedies of a table up to 255
abbrev pub Writable : ℕ → Type 0
Writable n = n ≤ 4294967295

abbrev pub FitsOrder : Order → Type 0
FitsOrder (bars s r f l) = Writable s × Writable r × Writable f × Writable l
FitsOrder (surcharges r a f l) = Writable r × Writable (unsigned_abs a) × Writable f × Writable l
FitsOrder (prolongs p l) = Writable p × Writable l
FitsOrder (lifts p) = Writable p
FitsOrder (plans c h) = Writable h
FitsOrder (judges c h rs) = Writable h × EachIndex rs (λ i. slice_index rs i ≤ 255)
FitsOrder (begins h s) = Writable h × Writable s
FitsOrder (turns Treat) = Unit {0}
FitsOrder (turns (Report n)) = Writable n
FitsOrder (turns Settle) = Unit {0}

-- every order that fits can be written, and is read as itself
abbrev pub OrdersAreWritten : Type 0
OrdersAreWritten = (k : ℕ) (o : Order) → FitsOrder o → check_order k (order_text o) ≡ good o

-- what a line says is an order exactly where it is that order as it is written
abbrev pub OrdersAreExact : Type 0
OrdersAreExact = (k : ℕ) (t : Bytes) (o : Order) → (check_order k t ≡ good o) ↔ ((t ≡ order_text o) × FitsOrder o)

-- lines, each ended by a newline (10)
abbrev pub ended : List Bytes → Bytes
ended [] = []
ended (l ∷ ls) = l ++ (10 ∷ ended ls)

-- E is 69
abbrev pub BeginsWithE : Bytes → Type 0
BeginsWithE l = (more : Bytes) × (l ≡ 69 ∷ more)

-- lines of which none begins with E
pub record PlainLines (ls : List Bytes) : Type 0 where
  pub no_newlines : All (Without 10) ls
  pub no_e : All (λ l. ¬ BeginsWithE l) ls

-- bytes whose last line begins with E and is ended, and no line before it begins with E
pub record EndsWithE (bs : Bytes) : Type 0 where
  pub lines : List Bytes
  pub last : Bytes
  pub plain : PlainLines lines
  pub clear : Without 10 last
  pub begins : BeginsWithE last
  pub text : bs ≡ ended lines ++ (last ++ (10 ∷ []))

-- bytes of which no ended line begins with E; what follows the last newline is no ended line
pub record HasNoE (bs : Bytes) : Type 0 where
  pub lines : List Bytes
  pub rest : Bytes
  pub plain : PlainLines lines
  pub clear : Without 10 rest
  pub text : bs ≡ ended lines ++ rest

-- the book's part goes up to and with the first line that begins with E; without one it is the whole input
abbrev pub PartsAreExact : Type 0
PartsAreExact = (input book script : Bytes) → book ++ script ≡ input → (book ≡ book_part input) ↔ (EndsWithE book ⊎ (HasNoE input × (book ≡ input)))
