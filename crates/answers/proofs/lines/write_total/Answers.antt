use Rattle.std.proofs.Common.{◌≡◌, ◌++◌, IfOk, string_bytes, w64, to_z, of_z, SFits, sym, subst, ap, ◌∙◌, rules}
use Rattle.std.proofs.lemmas.Int.{to_z-of_z}
use Rattle.answers.specs.Printing.{answer_line}
use Rattle.answers.proofs.Written.{total_written}
use Rattle.answers.proofs.lines.write_total.Goals as goal

pub returns : goal.returns
returns c =
    let f : SFits w64 c.args.total = search rules in
    let passed = to_z w64 (of_z w64 c.args.total) in
    let back : passed ≡ c.args.total = to_z-of_z w64 c.args.total f in
    subst (λ bs. IfOk c.writeln.result (λ _. string_bytes c.writeln.new.self ≡ string_bytes c.args.out.now ++ bs)) (total_written c.args.line passed (search rules) (subst (SFits w64) (sym back) f) ∙ ap (answer_line c.args.line) back) c.writeln.ensures.bytes
