use Rattle.std.proofs.Common.{◌≡◌, ◌++◌, IfOk, string_bytes, subst, append_assoc, rules}
use Rattle.answers.proofs.Written.{refusal_written}
use Rattle.answers.proofs.lines.write_refusal.Goals as goal

pub returns : goal.returns
returns c = subst (λ bs. IfOk c.writeln.result (λ _. string_bytes c.writeln.new.self ≡ string_bytes c.args.out.now ++ bs)) (refusal_written c.args.line c.args.number c.word_of-word.result.now c.args.places c.word_of-word.ensures (search rules) (search rules) c.requires.0 c.requires.1 c.requires.2) (simp append_assoc at c.writeln.ensures.bytes)
