use Rattle.std.proofs.Common.{◌*◌, ◌≤◌, length, ap, ◌∙◌, arith}
use Rattle.std.specs.Iterator.Adapters.{enumerate_source, enumerate_count, take_source, take_count}
use Rattle.std.specs.Slice.Iter.{chunks_exact_rest, chunks_exact_size}
use Rattle.model.specs.Model.{offers}
use Rattle.checks.proofs.Places.{all_to_come, no_part_left, misnamed_in_part, part_well_named}
use Rattle.checks.proofs.search.first_misnamed.Goals as goal

pub loop-row-init : goal.loop-row-init
loop-row-init g c =
    let same = c.into_iter-row-iterator.ensures.into_iter_gives in
    let parts = ap enumerate_source same ∙ c.enumerate-row-items.ensures.source in
    let chunks = ap take_source parts ∙ c.take.ensures.source in
    let none = ap enumerate_count same ∙ c.enumerate-row-items.ensures.count in (
      all_to_come c.args.remedies.now c.args.visits none (ap take_count parts ∙ c.take.ensures.count) (ap chunks_exact_size chunks ∙ c.chunks_exact.ensures.size) (ap chunks_exact_rest chunks ∙ c.chunks_exact.ensures.rest),
      λ n s place l. absurd (omega (arith, place.from, l, none)),
    )

pub returns-in-Some-misnamed_condition : goal.returns-in-Some-misnamed_condition
returns-in-Some-misnamed_condition g c =
    let o = offers (g.B.Book.model c.args.book.now) in
    let i = c.loop-row.invariant in
    misnamed_in_part o c.args.remedies.now c.args.visits _ _ _ c.conditions-conditions.ensures c.visit_of-visit.ensures i.0 c.in-Some.ensures.steps i.1 _ _ c.in-Some-misnamed_condition.ensures

pub loop-row-preserved : goal.loop-row-preserved
loop-row-preserved g c =
    let o = offers (g.B.Book.model c.args.book.now) in
    let i = c.loop-row.invariant in
    part_well_named o c.args.remedies.now c.args.visits _ _ _ c.conditions-conditions.ensures c.visit_of-visit.ensures i.0 c.in-Some.ensures.steps i.1 c.in_default.ensures

pub returns : goal.returns
returns g c =
    let i = c.loop-row.invariant in
    let room : c.args.visits * c.conditions-conditions.result ≤ length c.args.remedies.now = omega (arith, c.requires, ap (λ x. c.args.visits * x) c.conditions-conditions.ensures) in
    λ n s place. i.1 n s place (omega (arith, place.to, no_part_left c.args.remedies.now c.args.visits room i.0 (λ l. (c.in-None.ensures.steps.0 l).1.0)))
