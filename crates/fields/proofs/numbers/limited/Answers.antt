use Rattle.std.proofs.Common.{◌<◌, ◌≤◌, ◌⊎◌, arith, rules}
use Rattle.fields.proofs.CodeNumbers.{number_good, number_range}
use Rattle.fields.proofs.numbers.limited.Goals as goal

pub returns-in-Some : goal.returns-in-Some
returns-in-Some c =
    let e = c.in-Some.ensures in
    let within : (c.args.low ≤ c.in-Some.n) × (c.in-Some.n ≤ c.args.high) = search rules in
    record { read = number_good c.args.field.line c.args.field.place c.args.low c.args.high c.args.part.now c.in-Some.n e.0 e.1 within.0 within.1 (omega arith); bound = within }

pub returns-in-Some-2 : goal.returns-in-Some-2
returns-in-Some-2 c =
    let e = c.in-Some.ensures in
    let out : (c.in-Some.n < c.args.low) ⊎ (c.args.high < c.in-Some.n) = search rules in
    record { read = number_range c.args.field.line c.args.field.place c.args.low c.args.high c.args.part.now c.in-Some.n e.0 e.1 out (omega arith); bound = tt }
