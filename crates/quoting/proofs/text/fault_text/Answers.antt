use Rattle.std.proofs.Common.{◌≡◌, IfOk, string_bytes, subst, ap, ◌∙◌, rules}
use Rattle.quoting.specs.Faults.{fault_number}
use Rattle.quoting.specs.Printing.{refusal_line}
use Rattle.quoting.proofs.Lines.{refusal_printed}
use Rattle.quoting.proofs.text.fault_text.Goals as goal

pub returns : goal.returns
returns c =
    let p = c.places-first.result in
    subst (λ bs. IfOk c.format.result (λ s. string_bytes s ≡ bs))
    (refusal_printed c.number-number.result p (search rules) (search rules) (search rules) (search rules)
    ∙ ap (λ n. refusal_line n p) c.number-number.ensures
    ∙ ap (refusal_line (fault_number c.args.fault.now)) c.places-first.ensures)
    c.format.ensures.ok
