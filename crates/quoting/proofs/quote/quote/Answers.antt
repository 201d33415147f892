use Rattle.std.proofs.Common.{Err, refl}
use Rattle.std.proofs.lemmas.Result.{err_from_is_err_and}
use Rattle.quoting.proofs.Steps.{book_lawful, planned_in}
use Rattle.quoting.proofs.quote.quote.Goals as goal

pub book_in-book-requires-clause-lawful : goal.book_in-book-requires-clause-lawful
book_in-book-requires-clause-lawful c =
    book_lawful c.args.tables.now c.in_ok-asked.file.now c.in_ok-found.found _ c.read.new.records _ c.read.new.worths c.as_mut_slice.ensures.value c.as_mut_slice-2.ensures.value c.in_ok-found.ensures.answer _ _ c.as_slice.ensures.value c.as_slice-2.ensures.value

pub returns-in_err-entries : goal.returns-in_err-entries
returns-in_err-entries c =
    let p = err_from_is_err_and c.from_residual-in_err-entries.result c.from_residual-in_err-entries.ensures.1 in
    rw (p.1, p.2) (let all = planned_in c.args.tables.now c.in_ok-asked.file.now c.in_ok-found.found _ c.read.new.records _ c.read.new.worths c.as_mut_slice.ensures.value c.as_mut_slice-2.ensures.value c.in_ok-found.ensures.answer
    c.args.bytes.now c.if-bytes-gt-LONGEST.false c.in_ok-asked.asked c.in_ok-asked.ensures
    c.book_in-book.result _ _ c.as_slice.ensures.value c.as_slice-2.ensures.value c.book_in-book.ensures
    _ c.planned.new.values _ c.planned.new.remedies c.as_mut_slice-3.ensures.value c.as_mut_slice-4.ensures.value c.planned.auto.values c.planned.auto.remedies (Err c.in_err-entries.field-0.0) c.in_err-entries.ensures
    _ refl refl refl refl in (all.0, all.1, all.3))

pub returns : goal.returns
returns c =
    planned_in c.args.tables.now c.in_ok-asked.file.now c.in_ok-found.found _ c.read.new.records _ c.read.new.worths c.as_mut_slice.ensures.value c.as_mut_slice-2.ensures.value c.in_ok-found.ensures.answer
    c.args.bytes.now c.if-bytes-gt-LONGEST.false c.in_ok-asked.asked c.in_ok-asked.ensures
    c.book_in-book.result _ _ c.as_slice.ensures.value c.as_slice-2.ensures.value c.book_in-book.ensures
    _ c.planned.new.values _ c.planned.new.remedies c.as_mut_slice-3.ensures.value c.as_mut_slice-4.ensures.value c.planned.auto.values c.planned.auto.remedies _ c.in_ok-entries.ensures
    _ refl refl refl refl
