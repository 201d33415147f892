use Rattle.std.proofs.Common.{refl}
use Rattle.following.proofs.Covered.{led_as_planned}
use Rattle.following.proofs.follow.follow.Goals as goal

pub returns : goal.returns
returns g c =
    let plan = c.plan_totals in
    let taken = c.in_ok-plan_totals.ensures in
    let from = c.in_ok-arrived in
    ((refl, taken.answers.1, taken.answers.2), led_as_planned (g.B.Book.model c.args.book.now) c.args.visits c.args.condition c.lead.result plan.new.values plan.new.remedies c.args.turns.now c.lead.new.turns from.arrived c.lead.ensures from.ensures taken.totals)
