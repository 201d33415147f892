use Rattle.std.proofs.Common.{◌∙◌}
use Rattle.checks.proofs.Rows.{size_of_row}
use Rattle.checks.proofs.limit.greatest_under.Goals as goal

pub returns : goal.returns
returns g c = c.greatest_amount.ensures ∙ size_of_row (g.B.Book.model c.args.book.now) c.args.visit c.args.condition c.args.remedy _ (c.as_slice.ensures.value ∙ c.row.ensures)
