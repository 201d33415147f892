use Rattle.std.proofs.Common.{arith}
use Rattle.fields.proofs.CodeLines.{first_at, none_at}
use Rattle.fields.proofs.lines.end_of.Goals as goal

pub returns-in-10 : goal.returns-in-10
returns-in-10 c = (first_at 10 c.args.bytes.now c.loop-at.at c.loop-at-test.true c.loop-at.invariant.1 c.in-10.is, c.loop-at-test.true, c.loop-at.invariant.0)

pub returns : goal.returns
returns c = none_at 10 c.args.bytes.now (λ k l. c.loop-at.invariant.1 k (omega arith))
