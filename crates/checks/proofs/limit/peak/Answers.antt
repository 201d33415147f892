use Rattle.std.proofs.Common.{◌≡◌, min, sym, ap, ◌∙◌, subst, arith}
use Rattle.checks.specs.Limit.{Peak, greatest}
use Rattle.checks.proofs.Peaks.{has_a_peak}
use Rattle.checks.proofs.Alike.{walk_on, greatest_alike}
use Rattle.checks.proofs.limit.peak.Goals as goal

pub loop-visit-preserved : goal.loop-visit-preserved
loop-visit-preserved g c =
    let m = g.B.Book.model c.args.book.now in
    let i = c.loop-visit.invariant in
    walk_on g.B.Book.model c.args.book.now c.args.visits c.in-Some.ensures.steps i.0 i.1 (λ asked. c.max-top-in-loop-visit.ensures ∙ greatest_alike m _ _ _ _ _ _ asked i.2 c.greatest_at.ensures)

pub returns : goal.returns
returns g c =
    let m = g.B.Book.model c.args.book.now in
    let i = c.loop-visit.invariant in
    let all : min c.loop-visit.visit-iterator.row c.args.visits ≡ c.args.visits = omega (arith, c.in-None.ensures.steps.2, i.1) in
    subst (Peak m c.args.visits) (sym (i.2 ∙ ap (greatest m) all)) (has_a_peak m c.args.visits (g.B.Book.lawful c.args.book.now))
