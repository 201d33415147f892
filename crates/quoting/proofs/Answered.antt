-- What is printed of an answer is a reply, and it leaves one thing in the tables.
use Rattle.std.proofs.Common.{◌≡◌, ℕ, ◌+◌, ◌*◌, ◌≤◌, length, Ok, Err, Result, sym, refl, ap, ◌∙◌, subst, arith, mul-le-mul}
use Rattle.model.specs.Model.{offers}
use Rattle.checks.specs.Acceptance.{InOrder}
use Rattle.checks.specs.declared.refusal.PlanRefusal.{PlanRefusal}
use Rattle.planning.proofs.Determined.{whole_table, plans_are_determined}
use Rattle.fields.specs.Numerals.{Bytes}
use Rattle.fields.specs.Checking.{reported, Checked}
use Rattle.fields.specs.Checking.Checked.{good, faulty}
use Rattle.fields.specs.Views.{reported_line}
use Rattle.fields.specs.Faults.{line_fault_number, line_fault_places}
use Rattle.fields.specs.declared.faults.FieldFault.TheVariants.{Letter, Malformed, Range}
use Rattle.fields.specs.declared.faults.LineFault.{LineFault}
use Rattle.fields.specs.declared.faults.LineFault.TheVariants.{Field, Count, Unended}
use Rattle.bookfile.specs.Faults.{reported_file, file_fault_number, file_fault_places}
use Rattle.bookfile.specs.declared.faults.FileFault.{FileFault}
use Rattle.bookfile.specs.declared.faults.FileFault.TheVariants.{Line, Order, Space, Surplus}
use Rattle.quoting.specs.declared.fault.Fault.{Fault}
use Rattle.quoting.specs.declared.fault.Fault.TheVariants.{Long, Question, File, Plan}
use Rattle.quoting.specs.declared.tables.Tables.{Tables}
use Rattle.quoting.specs.declared.tables.Quote.{Quote}
use Rattle.quoting.specs.Asking.{criterion}
use Rattle.quoting.specs.Inputs.{Request, WellAsked, Asks}
use Rattle.quoting.specs.Inputs.AskFaulty.{too_long, in_question, in_file}
use Rattle.quoting.specs.Printing.{refusal_line, text_of_plan, printed}
use Rattle.quoting.specs.Quotes.{meaning_of, Quotes, TablesKept, PlannedIn, QuoteAnswers, AnswersAreOne}
use Rattle.quoting.proofs.Once.{lawful_meaning, asks_one, one_quote}

-- the tables of a quote have room for what is asked
has_room : (a : Request) (t : Tables) → WellAsked a → InOrder (offers (meaning_of a.book)) a.visits (length t.values.items) (length t.remedies.items)
has_room a t w =
    let sizes = w.lawful.0.0 in
    let few : a.visits + 1 ≤ 49 = omega (arith, w.few_visits) in
    let values : (a.visits + 1) * a.book.conditions ≤ 49 * 32 = mul-le-mul few sizes.few_conditions in
    let remedies : a.visits * a.book.conditions ≤ 48 * 32 = mul-le-mul w.few_visits sizes.few_conditions in
    record { some = w.some_visit; few = w.few_visits; values_room = omega (arith, t.values.ok.0, t.all_values); remedies_room = omega (arith, t.remedies.ok.0, t.all_remedies) }

-- no third place is told of a line or a file
third_of_line : (f : LineFault) → refusal_line (line_fault_number f) (line_fault_places f) ≡ refusal_line (line_fault_number f) ((line_fault_places f).0, (line_fault_places f).1, 0)
third_of_line (Field (Letter k i)) = refl
third_of_line (Field (Malformed k i)) = refl
third_of_line (Field (Range k i)) = refl
third_of_line (Count k) = refl
third_of_line (Unended k) = refl

third_of_file : (f : FileFault) → refusal_line (file_fault_number f) (file_fault_places f) ≡ refusal_line (file_fault_number f) ((file_fault_places f).0, (file_fault_places f).1, 0)
third_of_file (Line f) = third_of_line f
third_of_file (Order k) = refl
third_of_file (Space k) = refl
third_of_file (Surplus k) = refl

pub answer_quoted : (bs : Bytes) (a : Result Quote Fault) (t t' : Tables) → QuoteAnswers bs a t t' → Quotes bs (printed a t'.values.items t'.remedies.items)
answer_quoted bs (Ok q) t t' (a, asks, same, planned) = (good a, asks, record { answer = Ok q.entries; values = t.values.items; planned_values = t'.values.items; remedies = t.remedies.items; planned_remedies = t'.remedies.items; in_order = has_room a t asks.2; plans = planned.plans; prints = ap (λ c. text_of_plan c t'.values.items t'.remedies.items q.entries) same })
answer_quoted bs (Err Long) t t' x = (faulty (reported 25 0 0), too_long x.0, refl)
answer_quoted bs (Err (Question f)) t t' x = (faulty (reported_line f), in_question (reported_line f) x.0 x.1, third_of_line f)
answer_quoted bs (Err (File f)) t t' x = (faulty (reported_file f), in_file (reported_file f) x.0 x.1, third_of_file f)
answer_quoted bs (Err (Plan f)) t t' (a, asks, planned) = (good a, asks, record { answer = Err f; values = t.values.items; planned_values = t'.values.items; remedies = t.remedies.items; planned_remedies = t'.remedies.items; in_order = has_room a t asks.2; plans = planned.plans; prints = refl })

-- what is left in the tables after some bytes that ask this
abbrev Leaves : Checked Request → Tables → Tables → Type 0
Leaves (good a) t t' = (answer : Result ℕ PlanRefusal) × PlannedIn a answer t t'
Leaves (faulty f) t t' = TablesKept t t'

left_by : (bs : Bytes) (a : Result Quote Fault) (t t' : Tables) → QuoteAnswers bs a t t' → (x : Checked Request) × Asks bs x × Leaves x t t'
left_by bs (Ok q) t t' (a, asks, same, planned) = (good a, asks, (Ok q.entries, planned))
left_by bs (Err Long) t t' x = (faulty (reported 25 0 0), too_long x.0, x.1)
left_by bs (Err (Question f)) t t' x = (faulty (reported_line f), in_question (reported_line f) x.0 x.1, x.2)
left_by bs (Err (File f)) t t' x = (faulty (reported_file f), in_file (reported_file f) x.0 x.1, x.2)
left_by bs (Err (Plan f)) t t' (a, asks, planned) = (good a, asks, (Err f, planned))

one_left : (bs : Bytes) (x : Checked Request) (t t' u' : Tables) → Asks bs x → Leaves x t t' → Leaves x t u' → TablesKept t' u'
one_left bs (good a) t t' u' asks (answer, p) (answer', q) =
    let plan = plans_are_determined (criterion a.by) (meaning_of a.book) a.visits t.values.items t'.values.items u'.values.items t.remedies.items t'.remedies.items u'.remedies.items answer answer' (lawful_meaning a.book asks.2.lawful) p.plans q.plans in
    record {
      records = whole_table (length a.book.records) t.records.items u'.records.items t'.records.items q.records_kept p.records_kept (q.records ∙ sym p.records);
      worths = whole_table a.book.conditions t.worths.items u'.worths.items t'.worths.items q.worths_kept p.worths_kept (q.worths ∙ sym p.worths);
      values = sym plan.1;
      remedies = sym plan.2;
    }
one_left bs (faulty f) t t' u' asks x y = record { records = y.records ∙ sym x.records; worths = y.worths ∙ sym x.worths; values = y.values ∙ sym x.values; remedies = y.remedies ∙ sym x.remedies }

pub answers_are_one : AnswersAreOne
answers_are_one bs a b t t' u' x y =
    let p = left_by bs a t t' x in
    let q = left_by bs b t u' y in (
      one_quote bs (printed b u'.values.items u'.remedies.items) (printed a t'.values.items t'.remedies.items) (answer_quoted bs b t u' y) (answer_quoted bs a t t' x),
      one_left bs p.0 t t' u' p.1 p.2 (subst (λ (z : Checked Request). Leaves z t u') (asks_one bs q.0 p.0 q.1 p.1) q.2),
    )
