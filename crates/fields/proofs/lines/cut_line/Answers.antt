use Rattle.std.proofs.Common.{rules}
use Rattle.fields.proofs.CodeLines.{parted_at}
use Rattle.fields.proofs.lines.cut_line.Goals as goal

pub returns : goal.returns
returns c =
    let p = parted_at 10 c.args.bytes.now c.in-Some.end c.in-Some.ensures.0 c.in-Some.ensures.1 in
    search rules
