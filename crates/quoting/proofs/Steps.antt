-- What the calls that `quote` makes come to.
use Rattle.std.proofs.Common.{◌≡◌, ℕ, Ok, Err, Result, List, ◌++◌, length, take, drop, ℤ, ◌≤◌, sym, refl, ap, ◌∙◌, subst}
use Rattle.std.specs.List.{All}
use Rattle.std.specs.Result.{IsOk}
use Rattle.std.specs.Prelude.{Vec}
use Rattle.std.proofs.Math.Seq.{take-append_seam}
use Rattle.books.specs.declared.list.ListBook.{ListBook}
use Rattle.books.specs.declared.record.Record.{Record}
use Rattle.books.specs.declared.refusal.MakingRefusal.{MakingRefusal}
use Rattle.books.specs.Made.{ListNew}
use Rattle.books.specs.Means.{list_means}
use Rattle.model.specs.Model.{Model}
use Rattle.model.specs.Tables.{KeptPast}
use Rattle.planning.specs.Plans.{PlanAnswers}
use Rattle.checks.specs.declared.refusal.PlanRefusal.{PlanRefusal}
use Rattle.books.proofs.Once.{lists_answered_once}
use Rattle.fields.specs.declared.faults.LineFault.{LineFault}
use Rattle.fields.specs.Numerals.{Bytes}
use Rattle.fields.specs.Lines.{joined, split}
use Rattle.fields.specs.Checking.{check_line}
use Rattle.fields.specs.Checking.Checked.{good, faulty}
use Rattle.fields.specs.Views.{reported_line, LineCut, NoLine}
use Rattle.fields.proofs.Splitting.{Other, split_clear, joined_split}
use Rattle.bookfile.specs.File.{WrittenBook}
use Rattle.bookfile.specs.FileFaults.{LawfulBook, Reads}
use Rattle.bookfile.specs.FileCalls.{Filled, ReadAnswers}
use Rattle.bookfile.specs.declared.read.ReadBook.{ReadBook}
use Rattle.quoting.specs.declared.question.Asked.{Asked}
use Rattle.quoting.specs.Asking.{criterion, question_letters, after_letter, asked_values}
use Rattle.quoting.specs.declared.tables.Tables.{Tables}
use Rattle.quoting.specs.Inputs.{Request, question_line, Questioned, QuestionFaulty, Asks}
use Rattle.quoting.specs.Quotes.{meaning_of, book_held, PlansAsked, PlannedIn}
use Rattle.quoting.proofs.Exactness.{Cut, named_back, question_passed, question_stopped, question_missing}

cut_off : (bs : Bytes) (n : ℕ) (t left : Bytes) → LineCut 0 bs n t left → Cut bs t left
cut_off bs n t left c = (subst (All (Other 10)) (sym c.first) (split_clear 10 bs).0, c.whole)

pub no_question : (bs : Bytes) (e : LineFault) → NoLine 0 bs e → QuestionFaulty bs (reported_line e)
no_question bs e none =
    let whole : (split 10 bs).0 ≡ bs = sym (ap (joined 10 (split 10 bs).0) none.unended) ∙ joined_split 10 bs in
    subst (λ x. QuestionFaulty bs (reported_line x)) (sym none.fault) (question_missing bs (subst (All (Other 10)) whole (split_clear 10 bs).0))

pub wrong_question : (bs : Bytes) (n : ℕ) (t left : Bytes) (e : LineFault) → LineCut 0 bs n t left → check_line n question_letters after_letter t ≡ faulty (reported_line e) → QuestionFaulty bs (reported_line e)
wrong_question bs n t left e c h = question_stopped bs t left (reported_line e) (cut_off bs n t left c) (ap (λ k. check_line k question_letters after_letter t) (sym c.numbered) ∙ h)

pub right_question : (bs : Bytes) (n : ℕ) (t left : Bytes) (q : Asked) → LineCut 0 bs n t left → check_line n question_letters after_letter t ≡ good (81, asked_values q) → Questioned bs q left
right_question bs n t left q c h = subst (λ b. Questioned bs (record { visits = q.visits; by = b }) left) (named_back q.by) (question_passed bs t left (81, asked_values q) (cut_off bs n t left c) (ap (λ k. check_line k question_letters after_letter t) (sym c.numbered) ∙ h))

-- making a lawful book is not declined
pub made : (b : WrittenBook) (a : Result ListBook MakingRefusal) → LawfulBook b → ListNew b.conditions b.remedies b.parts b.records b.worths a → IsOk a
made b (Ok d) lawful h = refl
made b (Err f) lawful h = absurd (let e = lists_answered_once b.conditions b.remedies b.parts b.records b.worths (Ok tt) (Err f) lawful h in cc)

-- what was read makes the book of the file
held : (b : WrittenBook) (r : ReadBook) (es es' : List Record) (zs zs' : List ℤ) → Filled b r es es' zs zs' → book_held r es' zs' ≡ b
held b r es es' zs zs' f i = record { conditions = f.conditions i; remedies = f.remedies i; parts = f.parts i; records = f.records i; worths = f.worths i }

-- a table after all of it was written
abbrev pub written : {X Z : Type 0} → Vec X Z → List X → List X
written v xs = take v.len (xs ++ drop (length xs) v.items)

all_written : {X Z : Type 0} (v : Vec X Z) (xs : List X) → length xs ≡ length v.items → written v xs ≡ xs
all_written v xs e = ap (λ n. take n (xs ++ drop (length xs) v.items)) (v.ok.0 ∙ sym e) ∙ take-append_seam xs (drop (length xs) v.items)

module _ (t : Tables) (file : Bytes) (r : ReadBook) (es es' : List Record) (zs zs' : List ℤ) (es-is : es ≡ t.records.items) (zs-is : zs ≡ t.worths.items) (answer : ReadAnswers file (Ok r) es es' zs zs') where
  abbrev book : WrittenBook
  book = answer.0

  reads : Reads 2048 32 file (good book)
  reads = subst (λ (p : ℕ × ℕ). Reads p.0 p.1 file (good book)) (λ i. ((ap length es-is ∙ (sym t.records.ok.0 ∙ t.all_records)) i, (ap length zs-is ∙ (sym t.worths.ok.0 ∙ t.all_worths)) i)) answer.1

  filled : Filled book r t.records.items es' t.worths.items zs'
  filled = subst (λ (p : List Record × List ℤ). Filled book r p.0 es' p.1 zs') (λ i. (es-is i, zs-is i)) answer.2

  records_written : written t.records es' ≡ es'
  records_written = all_written t.records es' filled.records_kept.long

  worths_written : written t.worths zs' ≡ zs'
  worths_written = all_written t.worths zs' filled.worths_kept.long

  held_so : (ds : List Record) (ys : List ℤ) → ds ≡ written t.records es' → ys ≡ written t.worths zs' → book_held r ds ys ≡ book
  held_so ds ys e f = (λ i. book_held r ((e ∙ records_written) i) ((f ∙ worths_written) i)) ∙ held book r es es' zs zs' answer.2

  -- a book can be made of what was read
  pub book_lawful : (ds : List Record) (ys : List ℤ) → ds ≡ written t.records es' → ys ≡ written t.worths zs' → LawfulBook (book_held r ds ys)
  book_lawful ds ys e f = subst LawfulBook (sym (held_so ds ys e f)) reads.1

  module _ (bs : Bytes) (few : length bs ≤ 32768) (q : Asked) (questioned : Questioned bs q file) where
    abbrev request : Request
    request = record { visits = q.visits; by = q.by; book = book }

    asked : Asks bs (good request)
    asked = (few, questioned.whole ∙ ap (λ x. question_line q.visits q.by ++ x) reads.0, record { some_visit = questioned.some_visit; few_visits = questioned.few_visits; lawful = reads.1; room = reads.2 })

    -- and it was planned in the other tables
    module _ (d : ListBook) (ds : List Record) (ys : List ℤ) (ds-is : ds ≡ written t.records es') (ys-is : ys ≡ written t.worths zs') (means : list_means d ≡ meaning_of (book_held r ds ys)) (vs vs' : List ℤ) (rs rs' : List ℕ) (vs-is : vs ≡ t.values.items) (rs-is : rs ≡ t.remedies.items) (values : length vs' ≡ length vs) (remedies : length rs' ≡ length rs) (a : Result ℕ PlanRefusal) (plans : PlanAnswers (criterion q.by) (list_means d) q.visits a vs vs' rs rs') where
      planned_so : PlansAsked request a t.values.items vs' t.remedies.items rs'
      planned_so = subst (λ (p : Model × (List ℤ × List ℕ)). PlanAnswers (criterion q.by) p.0 q.visits a p.1.0 vs' p.1.1 rs') (λ i. ((means ∙ ap meaning_of (held_so ds ys ds-is ys-is)) i, (vs-is i, rs-is i))) plans

      pub planned_in : (t' : Tables) → t'.records.items ≡ written t.records es' → t'.worths.items ≡ written t.worths zs' → t'.values.items ≡ written t.values vs' → t'.remedies.items ≡ written t.remedies rs' → (x : Request) × Asks bs (good x) × (r.sizes.conditions ≡ x.book.conditions) × PlannedIn x a t t'
      planned_in t' e f g h =
          let e' = e ∙ records_written in let f' = f ∙ worths_written in
          let g' = g ∙ all_written t.values vs' (values ∙ ap length vs-is) in let h' = h ∙ all_written t.remedies rs' (remedies ∙ ap length rs-is) in (
            request,
            asked,
            filled.conditions,
            record {
              records = (λ i. take (sym filled.count i) (e' i)) ∙ filled.records;
              records_kept = subst (λ (p : ℕ × List Record). KeptPast p.0 t.records.items p.1) (λ i. (filled.count i, sym e' i)) filled.records_kept;
              worths = (λ i. take (sym filled.conditions i) (f' i)) ∙ filled.worths;
              worths_kept = subst (λ (p : ℕ × List ℤ). KeptPast p.0 t.worths.items p.1) (λ i. (filled.conditions i, sym f' i)) filled.worths_kept;
              plans = subst (λ (p : List ℤ × List ℕ). PlansAsked request a t.values.items p.0 t.remedies.items p.1) (λ i. (sym g' i, sym h' i)) planned_so;
            },
          )
