use Rattle.std.proofs.Common.{ap, ◌∙◌, w64, SFits, arith, rules}
use Rattle.std.proofs.lemmas.Result.{err_from_is_err_and}
use Rattle.std.proofs.lemmas.Int.{to_z-of_z}
use Rattle.fields.specs.Checking.{and_then}
use Rattle.fields.specs.Checking.Checked.{good}
use Rattle.bookfile.proofs.Cutting.{after_letter}
use Rattle.bookfile.proofs.Cutting.Cuts.{all_read, one_read, at_fault}
use Rattle.script.specs.declared.word.Word.TheVariants.{Surcharge}
use Rattle.script.specs.Orders.{form, order_from}
use Rattle.script.proofs.reading.surcharge_in.Goals as goal

pub returns-in_err-number_in-3 : goal.returns-in_err-number_in-3
returns-in_err-number_in-3 c =
    let p = err_from_is_err_and c.from_residual-in_err-number_in-3.result c.from_residual-in_err-number_in-3.ensures.1 in
    rw (p.1, p.2) (λ fs l q n. ap (λ x. and_then x (λ zs. good (order_from Surcharge zs))) (after_letter (form Surcharge 4) (one_read c.cut.ensures.field c.cut.ensures.after c.in_ok-number_in.ensures (one_read c.cut-2.ensures.field c.cut-2.ensures.after c.in_ok-signed_number.ensures.read (one_read c.cut-3.ensures.field c.cut-3.ensures.after c.in_ok-number_in-2.ensures (at_fault c.cut-4.ensures.field c.in_err-number_in-3.ensures)))) (omega arith) fs l q n))

pub returns : goal.returns
returns c =
    let f : SFits w64 c.in_ok-signed_number.field-0 = search rules in
    λ fs l q n. ap (λ x. and_then x (λ zs. good (order_from Surcharge zs))) (after_letter (form Surcharge 4) (one_read c.cut.ensures.field c.cut.ensures.after c.in_ok-number_in.ensures (one_read c.cut-2.ensures.field c.cut-2.ensures.after c.in_ok-signed_number.ensures.read (one_read c.cut-3.ensures.field c.cut-3.ensures.after c.in_ok-number_in-2.ensures (one_read c.cut-4.ensures.field c.cut-4.ensures.after c.in_ok-number_in-3.ensures all_read)))) (omega arith) fs l q n) ∙ rw (to_z-of_z w64 c.in_ok-signed_number.field-0 f)
