use Rattle.std.proofs.Common.{ℕ, ◌<◌, List, length, ℤ, Ok, Err, refl, inl, inr, arith}
use Rattle.std.proofs.lemmas.Result.{err_from_is_err_and}
use Rattle.books.specs.declared.record.Record.{Record}
use Rattle.books.specs.Entries.{KeysRise}
use Rattle.books.specs.Making.{Entered, ListChecked}
use Rattle.books.proofs.Places.{at_numbers}
use Rattle.books.proofs.Orders.{keys_rise}
use Rattle.books.proofs.list.ListBook.new.Goals as goal

module _ (c r parts : ℕ) (es : List Record) (worths : List ℤ) (checked : ListChecked c r parts es worths (Ok tt)) where
  entered : (i : ℕ) → i < length es → Entered c r parts es i
  entered i l = (checked.1 1 i (inl (refl, l))).0 refl

  rise : KeysRise es
  rise = keys_rise c r parts es checked.0.0.few_conditions checked.0.0.few_remedies entered

pub invariant_of-listing : goal.invariant_of-listing
invariant_of-listing c =
    let e = c.in_ok-check.ensures in
    let few = e.0.0.few_conditions in
    let few_remedies = e.0.0.few_remedies in
    let entered = entered _ _ _ c.args.records.now c.args.worths.now e in record {
      placed = λ i l. let f = (entered i l).0 in let a = f.some_condition in let b = f.some_remedy in let d = f.some_next in (omega arith, omega arith, omega arith);
      rise = rise _ _ _ c.args.records.now c.args.worths.now e;
    }

pub invariant_of-result : goal.invariant_of-result
invariant_of-result c =
    let e = c.in_ok-check.ensures in
    let entered = entered _ _ _ c.args.records.now c.args.worths.now e in record {
      worths_long = e.0.1;
      records_placed = λ i l. let f = (entered i l).0 in (f.some_condition, f.some_remedy, f.some_next);
      records_valued = λ i l. let f = (entered i l).0 in (f.some_share, f.few_share, f.small_amount);
      worths_small = λ i l. (e.1 3 i (inr (inr (refl, l)))).1 refl;
      rows_start = c.starts.ensures;
    }

pub returns-in_err-check : goal.returns-in_err-check
returns-in_err-check c =
    let p = err_from_is_err_and c.from_residual-in_err-check.result c.from_residual-in_err-check.ensures.1 in
    rw (p.1, p.2) (at_numbers c.in_ok-sizes.sizes _ _ _ (λ s x p. ListChecked s x p c.args.records.now c.args.worths.now (Err c.in_err-check.field-0.0)) (rw c.in_ok-sizes.ensures.ok_part at c.new.ensures) c.in_err-check.ensures)
