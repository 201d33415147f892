-- What the reading of the book file gives to the desk.
use Rattle.std.proofs.Common.{◌≡◌, ℕ, ◌≤◌, List, take, length, ℤ, Ok, Err, Result, IsOk, sym, refl, ap, ◌∙◌, subst, arith, rules}
use Rattle.books.specs.declared.record.Record.{Record}
use Rattle.books.specs.declared.list.ListBook.{ListBook}
use Rattle.books.specs.declared.refusal.MakingRefusal.{MakingRefusal}
use Rattle.books.specs.Listed.{list_model}
use Rattle.books.specs.Making.{ListChecked}
use Rattle.books.specs.Made.{ListNew}
use Rattle.books.specs.Means.{list_means}
use Rattle.books.proofs.Once.{lists_answered_once}
use Rattle.fields.specs.declared.faults.FieldFault.TheVariants.{Letter, Malformed, Range}
use Rattle.fields.specs.declared.faults.LineFault.TheVariants.{Field, Count, Unended}
use Rattle.fields.specs.Numerals.{Bytes}
use Rattle.fields.specs.Checking.Checked.{good, faulty}
use Rattle.bookfile.specs.declared.faults.FileFault.{FileFault}
use Rattle.bookfile.specs.declared.faults.FileFault.TheVariants.{Line, Order, Space, Surplus}
use Rattle.bookfile.specs.declared.read.ReadBook.{ReadBook}
use Rattle.bookfile.specs.Faults.{file_fault_number, file_fault_places, reported_file}
use Rattle.bookfile.specs.File.{WrittenBook}
use Rattle.bookfile.specs.FileFaults.{LawfulBook, Reads}
use Rattle.bookfile.specs.FileCalls.{Filled, ReadAnswers}
use Rattle.script.specs.Parts.{Said, book_part, script_of}
use Rattle.answers.specs.Printing.{refusal_line}
use Rattle.answers.specs.Desk.{Serves, Told, DeskAnswers, model_of}

no_third_place : (f : FileFault) → (file_fault_places f).2 ≡ 0
no_third_place (Line (Field (Letter k i))) = refl
no_third_place (Line (Field (Malformed k i))) = refl
no_third_place (Line (Field (Range k i))) = refl
no_third_place (Line (Count k)) = refl
no_third_place (Line (Unended k)) = refl
no_third_place (Order k) = refl
no_third_place (Space k) = refl
no_third_place (Surplus k) = refl

pub told_fault : {m w : ℕ} {file : Bytes} (script : List Said) (f : FileFault) (n : ℕ) (p : ℕ × ℕ × ℕ) (output : Bytes) → Reads m w file (faulty (reported_file f)) → p ≡ file_fault_places f → n ≡ file_fault_number f → output ≡ refusal_line p.0 n p → Told m w file script output
told_fault script f n p output r h g e =
    let q = file_fault_places f in
    (faulty (reported_file f), r, e ∙ ap (λ x. refusal_line x.0 n x) h ∙ ap (λ x. refusal_line q.0 x q) g ∙ ap (λ x. refusal_line q.0 (file_fault_number f) (q.0, q.1, x)) (no_third_place f))

-- the sizes, the records and the worths that were read are those of the book that the file writes
module _ {found : ReadBook} {es es' : List Record} {zs zs' : List ℤ} where
  checked : (b : WrittenBook) → LawfulBook b → Filled b found es es' zs zs' → ListChecked found.sizes.conditions found.sizes.remedies found.sizes.parts (take found.count es') (take found.sizes.conditions zs') (Ok tt)
  checked b l f =
      subst (λ x. ListChecked x found.sizes.remedies found.sizes.parts (take found.count es') (take found.sizes.conditions zs') (Ok tt)) (sym f.conditions)
      (subst (λ x. ListChecked b.conditions x found.sizes.parts (take found.count es') (take found.sizes.conditions zs') (Ok tt)) (sym f.remedies)
      (subst (λ x. ListChecked b.conditions b.remedies x (take found.count es') (take found.sizes.conditions zs') (Ok tt)) (sym f.parts)
      (subst (λ x. ListChecked b.conditions b.remedies b.parts x (take found.sizes.conditions zs') (Ok tt)) (sym f.records)
      (subst (λ x. ListChecked b.conditions b.remedies b.parts b.records x (Ok tt)) (sym f.worths) l))))

  same_model : (b : WrittenBook) → Filled b found es es' zs zs' → list_model found.sizes.conditions found.sizes.remedies found.sizes.parts (take found.count es') (take found.sizes.conditions zs') ≡ model_of b
  same_model b f =
      ap (λ x. list_model x found.sizes.remedies found.sizes.parts (take found.count es') (take found.sizes.conditions zs')) f.conditions
      ∙ ap (λ x. list_model b.conditions x found.sizes.parts (take found.count es') (take found.sizes.conditions zs')) f.remedies
      ∙ ap (λ x. list_model b.conditions b.remedies x (take found.count es') (take found.sizes.conditions zs')) f.parts
      ∙ ap (λ x. list_model b.conditions b.remedies b.parts x (take found.sizes.conditions zs')) f.records
      ∙ ap (list_model b.conditions b.remedies b.parts b.records) f.worths

is_made : (c r p : ℕ) (es : List Record) (ws : List ℤ) (x : Result ListBook MakingRefusal) → ListChecked c r p es ws (Ok tt) → ListNew c r p es ws x → IsOk x
is_made c r p es ws (Ok b) l n = search rules
is_made c r p es ws (Err f) l n = absurd (let e = lists_answered_once c r p es ws (Ok tt) (Err f) l n in cc)

module _ {file : Bytes} {found : ReadBook} {es es' : List Record} {zs zs' : List ℤ} (x : Result ListBook MakingRefusal) (answer : ReadAnswers file (Ok found) es es' zs zs') (new : ListNew found.sizes.conditions found.sizes.remedies found.sizes.parts (take found.count es') (take found.sizes.conditions zs') x) where
  pub book_made : IsOk x
  book_made = is_made found.sizes.conditions found.sizes.remedies found.sizes.parts (take found.count es') (take found.sizes.conditions zs') x (checked answer.0 answer.1.1 answer.2) new

  pub told_book : (book : ListBook) (script script' : List Said) (output : Bytes) → x ≡ Ok book → script ≡ script' → Serves (list_means book) script output → Told (length es) (length zs) file script' output
  told_book book script script' output is same serves =
      let new' = subst (ListNew found.sizes.conditions found.sizes.remedies found.sizes.parts (take found.count es') (take found.sizes.conditions zs')) is new in
      (good answer.0, answer.1, subst (λ y. Serves (model_of answer.0) y output) same (subst (λ m. Serves m script output) (new'.1.meaning ∙ same_model answer.0 answer.2) serves))

pub answered : {input output : Bytes} (m w : ℕ) (file : Bytes) (script : List Said) → length input ≤ 65536 → m ≡ 2048 → w ≡ 32 → file ≡ book_part input → script ≡ script_of input → Told m w file script output → DeskAnswers input output
answered {input} {output} m w file script short em ew ef es t = record {
  too_long = λ h. absurd (omega arith);
  told = λ _. subst (λ x. Told 2048 32 (book_part input) x output) es (subst (λ x. Told 2048 32 x script output) ef (subst (λ x. Told 2048 x file script output) ew (subst (λ x. Told x w file script output) em t)));
}
