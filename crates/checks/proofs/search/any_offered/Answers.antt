use Rattle.std.proofs.Common.{T, refl, arith, rules, tests}
use Rattle.std.proofs.lemmas.Iterator.{YieldsList-from_range, cases_from_any}
use Rattle.model.specs.Model.{offers}
use Rattle.checks.proofs.Places.{offered_below}
use Rattle.checks.proofs.search.any_offered.Goals as goal

pub returns : goal.returns
returns g c =
    let o = offers (g.B.Book.model c.args.book.now) in
    let n = c.args.visit in
    let s = c.args.condition in
    let k = c.remedies.result in
    offered_below o n s k c.any.result c.remedies.ensures (λ r t. ((g.B.Book.lawful c.args.book.now).offered_inside n s r t).some_remedy)
    (cases_from_any _ _ c.any.result (λ r. T (o.offered n s r)) (λ r. T (o.offered n s r) → ⊥) c.any.ensures.ran (YieldsList-from_range 0 k k refl (omega arith)) (λ x q k. search (rules, tests)) (λ x q k. search (rules, tests)))
