use Rattle.std.proofs.Common.{Err, refl, inl, inr}
use Rattle.std.proofs.lemmas.Result.{err_from_is_err_and}
use Rattle.books.specs.Making.{TableChecked}
use Rattle.books.proofs.Places.{at_numbers}
use Rattle.books.proofs.table.TableBook.new.Goals as goal

pub invariant_of-result : goal.invariant_of-result
invariant_of-result c =
    let e = c.in_ok-check.ensures in
    let fits = e.1 in record {
      shares_long = e.0.1;
      amounts_long = e.0.2;
      worths_long = e.0.3;
      shares_fit = λ i l. (fits 1 i (inl (refl, l))).0 refl;
      amounts_small = λ i l. (fits 2 i (inr (inl (refl, l)))).1 refl;
      worths_small = λ i l. (fits 3 i (inr (inr (refl, l)))).2 refl;
    }

pub returns-in_err-check : goal.returns-in_err-check
returns-in_err-check c =
    let p = err_from_is_err_and c.from_residual-in_err-check.result c.from_residual-in_err-check.ensures.1 in
    rw (p.1, p.2) (at_numbers c.in_ok-sizes.sizes _ _ _ (λ s x p. TableChecked s x p c.args.shares.now c.args.amounts.now c.args.worths.now (Err c.in_err-check.field-0.0)) (rw c.in_ok-sizes.ensures.ok_part at c.new.ensures) c.in_err-check.ensures)
