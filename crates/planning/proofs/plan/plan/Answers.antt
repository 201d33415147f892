use Rattle.planning.specs.Plans.{PlanAnswers}
use Rattle.planning.proofs.Plans.{policy_is, unbeaten_is, lowest_is, planned_values}
use Rattle.planning.proofs.Stuck.{plans_are_stuck_exactly}
use Rattle.std.proofs.Common.{Ok, rules}
use Rattle.planning.proofs.plan.plan.Goals as goal

pub returns-in_err-filled : goal.returns-in_err-filled
returns-in_err-filled g c =
    let o = g.C.Criterion.ops c.args.by.now in
    let m = g.B.Book.model c.args.book.now in
    let vs = c.args.values.now in
    let rs = c.args.remedies.now in
    let a : PlanAnswers o m c.args.visits c.from_residual.result vs vs rs rs = search rules in
    record { answers = a; stuck = plans_are_stuck_exactly o m c.args.visits vs vs rs rs c.from_residual.result (g.B.Book.lawful c.args.book.now) a }

pub returns : goal.returns
returns g c =
    let o = g.C.Criterion.ops c.args.by.now in
    let m = g.B.Book.model c.args.book.now in
    let lawful = g.B.Book.lawful c.args.book.now in
    let H = c.args.visits in
    let taken = c.in_ok-filled.ensures in
    let f = c.fill.ensures.filled in
    let vs = c.fill.new.values in
    let rs = c.fill.new.remedies in
    let a : PlanAnswers o m H (Ok c.in_ok-filled.filled) c.args.values.now vs c.args.remedies.now rs = (
      taken.0,
      taken.1,
      record {
        policy = policy_is o m H vs rs lawful f;
        unbeaten = unbeaten_is o m H vs rs lawful f (g.C.Criterion.better c.args.by.now) (g.C.Criterion.laws c.args.by.now) taken.1.in_order.few;
        lowest = lowest_is o m H vs rs lawful f;
        values = planned_values o m H vs rs lawful f;
        values_kept = record { long = c.fill.auto.values; past = c.fill.ensures.values };
        remedies_kept = record { long = c.fill.auto.remedies; past = c.fill.ensures.remedies };
      },
    ) in
    record { answers = a; stuck = plans_are_stuck_exactly o m H c.args.values.now vs c.args.remedies.now rs (Ok c.in_ok-filled.filled) lawful a }
