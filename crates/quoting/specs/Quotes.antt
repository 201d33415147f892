-- What `quote` answers, and what is printed of it.
use Rattle.std.specs.Prelude.{◌≡◌, ℕ, List, length, take, ℤ, Ok, Err, Result, ◌<◌, ◌≤◌}
use Rattle.model.specs.Model.{Model, offers}
use Rattle.model.specs.Tables.{KeptPast}
use Rattle.books.specs.declared.record.Record.{Record}
use Rattle.books.specs.Listed.{list_model}
use Rattle.checks.specs.Acceptance.{InOrder}
use Rattle.checks.specs.Refusals.{refusal_number, refusal_places}
use Rattle.checks.specs.declared.refusal.PlanRefusal.{PlanRefusal}
use Rattle.planning.specs.Plans.{PlanAnswers}
use Rattle.fields.specs.Numerals.{Bytes}
use Rattle.fields.specs.Checking.{Checked}
use Rattle.fields.specs.Checking.Checked.{good, faulty}
use Rattle.fields.specs.Views.{reported_line}
use Rattle.bookfile.specs.declared.read.ReadBook.{ReadBook}
use Rattle.bookfile.specs.Faults.{reported_file}
use Rattle.bookfile.specs.File.{WrittenBook}
use Rattle.quoting.specs.declared.fault.Fault.{Fault}
use Rattle.quoting.specs.declared.fault.Fault.TheVariants.{Long, Question, File, Plan}
use Rattle.quoting.specs.declared.tables.Tables.{Tables}
use Rattle.quoting.specs.declared.tables.Quote.{Quote}
use Rattle.quoting.specs.Asking.{criterion}
use Rattle.quoting.specs.Inputs.{Request, Asks, QuestionFaulty, FileFaulty}
use Rattle.quoting.specs.Printing.{refusal_line, text_of_plan, printed}

-- what a book means
abbrev pub meaning_of : WrittenBook → Model
meaning_of b = list_model b.conditions b.remedies b.parts b.records b.worths

-- the book that the first entries of a list of records and a table of worths make, of what was read into them
abbrev pub book_held : ReadBook → List Record → List ℤ → WrittenBook
book_held r es ws = record { conditions = r.sizes.conditions; remedies = r.sizes.remedies; parts = r.sizes.parts; records = take r.count es; worths = take r.sizes.conditions ws }

-- a plan of what is asked: its answer, and both tables before and after
abbrev pub PlansAsked : Request → (answer : Result ℕ PlanRefusal) → (vs vs' : List ℤ) → (rs rs' : List ℕ) → Type 0
PlansAsked a answer vs vs' rs rs' = PlanAnswers (criterion a.by) (meaning_of a.book) a.visits answer vs vs' rs rs'

-- what is printed of a plan's answer: the P lines and the T line, or the N line
abbrev pub told : (conditions : ℕ) → Result ℕ PlanRefusal → List ℤ → List ℕ → Bytes
told c (Ok n) vs rs = text_of_plan c vs rs n
told c (Err f) vs rs = refusal_line (refusal_number f) (refusal_places f)

-- a plan of what is asked, over tables that have room, and what is printed of it
pub record Tells (a : Request) (output : Bytes) : Type 0 where
  pub answer : Result ℕ PlanRefusal
  pub values : List ℤ
  pub planned_values : List ℤ
  pub remedies : List ℕ
  pub planned_remedies : List ℕ
  pub in_order : InOrder (offers (meaning_of a.book)) a.visits (length values) (length remedies)
  pub plans : PlansAsked a answer values planned_values remedies planned_remedies
  pub prints : output ≡ told a.book.conditions answer planned_values planned_remedies

abbrev pub Replies : Checked Request → Bytes → Type 0
Replies (good a) output = Tells a output
Replies (faulty f) output = output ≡ refusal_line f.number (f.line_number, f.field, 0)

-- the whole of `quote`: the output is a reply to what the input asks, or to its first fault
abbrev pub Quotes : (input output : Bytes) → Type 0
Quotes input output = (a : Checked Request) × Asks input a × Replies a output

-- no input has two outputs
abbrev pub OneQuote : Type 0
OneQuote = (input output other : Bytes) → Quotes input output → Quotes input other → other ≡ output

-- the same tables
pub record TablesKept (t t' : Tables) : Type 0 where
  pub records : t'.records.items ≡ t.records.items
  pub worths : t'.worths.items ≡ t.worths.items
  pub values : t'.values.items ≡ t.values.items
  pub remedies : t'.remedies.items ≡ t.remedies.items

-- the book stands in the list of records and the table of worths, which keep what is past it, and is planned in the others
pub record PlannedIn (a : Request) (answer : Result ℕ PlanRefusal) (t t' : Tables) : Type 0 where
  pub records : take (length a.book.records) t'.records.items ≡ a.book.records
  pub records_kept : KeptPast (length a.book.records) t.records.items t'.records.items
  pub worths : take a.book.conditions t'.worths.items ≡ a.book.worths
  pub worths_kept : KeptPast a.book.conditions t.worths.items t'.worths.items
  pub plans : PlansAsked a answer t.values.items t'.values.items t.remedies.items t'.remedies.items

-- what `quote` answers to some bytes, and the tables before and after
abbrev pub QuoteAnswers : Bytes → Result Quote Fault → Tables → Tables → Type 0
QuoteAnswers bs (Ok q) t t' = (a : Request) × Asks bs (good a) × (q.conditions ≡ a.book.conditions) × PlannedIn a (Ok q.entries) t t'
QuoteAnswers bs (Err Long) t t' = (32768 < length bs) × TablesKept t t'
QuoteAnswers bs (Err (Question f)) t t' = (length bs ≤ 32768) × QuestionFaulty bs (reported_line f) × TablesKept t t'
QuoteAnswers bs (Err (File f)) t t' = (length bs ≤ 32768) × FileFaulty bs (reported_file f) × TablesKept t t'
QuoteAnswers bs (Err (Plan f)) t t' = (a : Request) × Asks bs (good a) × PlannedIn a (Err f) t t'

-- the tables after some answer to these bytes
abbrev pub SomeAnswer : Bytes → Tables → Tables → Type 0
SomeAnswer bs t t' = (a : Result Quote Fault) × QuoteAnswers bs a t t'

-- two answers to an input print alike, and leave the same tables
abbrev pub AnswersAreOne : Type 0
AnswersAreOne = (bs : Bytes) (a b : Result Quote Fault) (t t' u' : Tables) → QuoteAnswers bs a t t' → QuoteAnswers bs b t u' → (printed a t'.values.items t'.remedies.items ≡ printed b u'.values.items u'.remedies.items) × TablesKept t' u'
