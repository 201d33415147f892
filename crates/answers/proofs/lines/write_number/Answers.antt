use Rattle.std.proofs.Common.{◌≡◌, ◌++◌, IfOk, string_bytes, subst, rules}
use Rattle.answers.proofs.Written.{number_written}
use Rattle.answers.proofs.lines.write_number.Goals as goal

pub returns : goal.returns
returns c = subst (λ bs. IfOk c.writeln.result (λ _. string_bytes c.writeln.new.self ≡ string_bytes c.args.out.now ++ bs)) (number_written c.args.line c.args.number (search rules) (search rules)) c.writeln.ensures.bytes
