use Rattle.checks.specs.Places.{EvenIn}
use Rattle.checks.proofs.Alike.{walk_on, clear_alike, even_alike}
use Rattle.checks.proofs.search.first_uneven.Goals as goal

pub loop-visit-preserved : goal.loop-visit-preserved
loop-visit-preserved g c =
    let m = g.B.Book.model c.args.book.now in
    let i = c.loop-visit.invariant in
    walk_on g.B.Book.model c.args.book.now c.args.visits c.in-Some.ensures.steps i.0 i.1 (λ asked. clear_alike m c.args.visits (EvenIn m) _ _ _ asked (λ k s a x. even_alike m _ k a s x) c.in_default.ensures i.2)
