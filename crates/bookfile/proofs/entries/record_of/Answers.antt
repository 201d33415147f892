use Rattle.std.proofs.Common.{◌∙◌, arith, w64, SFits, rules}
use Rattle.std.proofs.lemmas.Result.{err_from_is_err_and}
use Rattle.std.proofs.lemmas.Int.{to_z-of_z}
use Rattle.bookfile.specs.File.{record_form}
use Rattle.bookfile.proofs.Cutting.{after_letter}
use Rattle.bookfile.proofs.Cutting.Cuts.{all_read, one_read, at_fault}
use Rattle.bookfile.proofs.entries.record_of.Goals as goal

pub returns-in_err-share-clause-read : goal.returns-in_err-share-clause-read
returns-in_err-share-clause-read c =
    let p = err_from_is_err_and c.from_residual-in_err-share.result c.from_residual-in_err-share.ensures.1 in
    rw (p.1, p.2) (λ fs l q n. after_letter (record_form c.args.sizes.conditions c.args.sizes.remedies c.args.sizes.parts) (one_read c.cut.ensures.field c.cut.ensures.after c.in_ok-condition.ensures.read (one_read c.cut-2.ensures.field c.cut-2.ensures.after c.in_ok-remedy.ensures.read (one_read c.cut-3.ensures.field c.cut-3.ensures.after c.in_ok-next.ensures.read (at_fault c.cut-4.ensures.field c.in_err-share.ensures.read)))) (omega arith) fs l q n)

pub returns-in_err-amount-clause-read : goal.returns-in_err-amount-clause-read
returns-in_err-amount-clause-read c =
    let p = err_from_is_err_and c.from_residual-in_err-amount.result c.from_residual-in_err-amount.ensures.1 in
    rw (p.1, p.2) (λ fs l q n. after_letter (record_form c.args.sizes.conditions c.args.sizes.remedies c.args.sizes.parts) (one_read c.cut.ensures.field c.cut.ensures.after c.in_ok-condition.ensures.read (one_read c.cut-2.ensures.field c.cut-2.ensures.after c.in_ok-remedy.ensures.read (one_read c.cut-3.ensures.field c.cut-3.ensures.after c.in_ok-next.ensures.read (one_read c.cut-4.ensures.field c.cut-4.ensures.after c.in_ok-share.ensures.read (at_fault c.cut-5.ensures.field c.in_err-amount.ensures.read))))) (omega arith) fs l q n)

pub returns-clause-read : goal.returns-clause-read
returns-clause-read c =
    let f : SFits w64 c.in_ok-amount.amount = search rules in
    λ fs l q n. after_letter (record_form c.args.sizes.conditions c.args.sizes.remedies c.args.sizes.parts) (one_read c.cut.ensures.field c.cut.ensures.after c.in_ok-condition.ensures.read (one_read c.cut-2.ensures.field c.cut-2.ensures.after c.in_ok-remedy.ensures.read (one_read c.cut-3.ensures.field c.cut-3.ensures.after c.in_ok-next.ensures.read (one_read c.cut-4.ensures.field c.cut-4.ensures.after c.in_ok-share.ensures.read (one_read c.cut-5.ensures.field c.cut-5.ensures.after c.in_ok-amount.ensures.read all_read))))) (omega arith) fs l q n ∙ rw (to_z-of_z w64 c.in_ok-amount.amount f)
