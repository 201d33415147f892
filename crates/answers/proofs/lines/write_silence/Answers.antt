use Rattle.std.proofs.Common.{◌≡◌, ◌++◌, IfOk, string_bytes, subst, rules}
use Rattle.answers.proofs.Written.{silence_written}
use Rattle.answers.proofs.lines.write_silence.Goals as goal

pub returns : goal.returns
returns c = subst (λ bs. IfOk c.writeln.result (λ _. string_bytes c.writeln.new.self ≡ string_bytes c.args.out.now ++ bs)) (silence_written c.args.line (search rules)) c.writeln.ensures.bytes
