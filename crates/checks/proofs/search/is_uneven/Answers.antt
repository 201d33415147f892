use Rattle.std.proofs.Common.{ap, ◌∙◌, sum_by, rules}
use Rattle.checks.proofs.Rows.{shares_of_row, shares_fit}
use Rattle.checks.proofs.search.is_uneven.Goals as goal

pub total_share-requires : goal.total_share-requires
total_share-requires g c = shares_fit (g.B.Book.model c.args.book.now) c.args.visit c.args.condition c.args.remedy (g.B.Book.lawful c.args.book.now) _ (c.as_slice.ensures.value ∙ c.row.ensures)

pub returns : goal.returns
returns g c =
    let m = g.B.Book.model c.args.book.now in
    let sum = c.total_share.ensures ∙ ap (sum_by (λ x. x.share)) (c.as_slice.ensures.value ∙ c.row.ensures) ∙ shares_of_row m c.args.visit c.args.condition c.args.remedy m.conditions in
    search rules
