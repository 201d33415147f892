use Rattle.std.proofs.Common.{◌≡◌, ◌*◌, ◌+◌, ◌-◌, ◌≤◌, get_or, below_more, rules}
use Rattle.fields.proofs.CodeNumerals.{held, held_more}
use Rattle.fields.proofs.numbers.digits.Goals as goal

pub loop-digit-preserved : goal.loop-digit-preserved
loop-digit-preserved c =
    let bs = c.args.part.now in
    let i = c.loop-digit.digit-index in
    let digit : (48 ≤ get_or bs i 0) × (get_or bs i 0 ≤ 57) = search rules in
    let next : c.min-number.result ≡ held (c.loop-digit.number * 10 + (get_or bs i 0 - 48)) = search rules in
    (held_more bs i c.loop-digit.number c.min-number.result c.loop-digit-test.true c.loop-digit.invariant.0 next, below_more _ _ c.loop-digit.invariant.1 digit)
