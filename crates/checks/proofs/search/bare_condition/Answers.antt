use Rattle.std.proofs.Common.{rules, tests}
use Rattle.std.proofs.lemmas.Iterator.{first_from_Range}
use Rattle.model.specs.Model.{offers}
use Rattle.model.specs.Visits.{SomeOffered, Unoffered}
use Rattle.checks.proofs.Places.{found_below}
use Rattle.checks.proofs.search.bare_condition.Goals as goal

pub returns : goal.returns
returns g c =
    let o = offers (g.B.Book.model c.args.book.now) in
    found_below c.find.result c.conditions.result o.conditions (Unoffered o c.args.visit) (SomeOffered o c.args.visit) c.conditions.ensures
    (first_from_Range _ _ _ c.find.result (Unoffered o c.args.visit) (SomeOffered o c.args.visit) c.find.ensures.ran (λ x q k. search (rules, tests)) (λ x q k. search (rules, tests)))
