use Rattle.std.proofs.Common.{ap, arith}
use Rattle.model.specs.Model.{offers}
use Rattle.model.specs.Visits.{SomeOffered}
use Rattle.checks.proofs.Places.{clear_before}
use Rattle.checks.proofs.Alike.{asked_at, walk_on, clear_alike, some_alike}
use Rattle.checks.proofs.search.first_stuck.Goals as goal

pub returns-in-Some-bare_condition : goal.returns-in-Some-bare_condition
returns-in-Some-bare_condition g c =
    let m = g.B.Book.model c.args.book.now in
    let i = c.loop-visit.invariant in
    let asked = asked_at m _ c.args.visits _ _ _ _ (ap g.B.Book.model i.0) i.1 c.in-Some.ensures.steps.2 in
    let found = c.in-Some-bare_condition.ensures in
    record {
      place = record { from = omega (arith, asked.next); to = omega (arith, asked.next, asked.some); condition = found.0 };
      bare = found.1;
      first = clear_before (offers m) c.args.visits (SomeOffered (offers m)) _ _ _ asked.next found.2 i.2;
    }

pub loop-visit-preserved : goal.loop-visit-preserved
loop-visit-preserved g c =
    let m = g.B.Book.model c.args.book.now in
    let i = c.loop-visit.invariant in
    walk_on g.B.Book.model c.args.book.now c.args.visits c.in-Some.ensures.steps i.0 i.1 (λ asked. clear_alike m c.args.visits (SomeOffered (offers m)) _ _ _ asked (λ k s a x. some_alike m _ k a s x) c.in_default.ensures i.2)
