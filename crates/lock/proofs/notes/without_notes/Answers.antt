use Rattle.std.proofs.Common.{rules, [], sym, ◌∙◌}
use Rattle.std.proofs.lemmas.Option.{same_Some}
use Rattle.lock.specs.Noted.{IsBlankLock}
use Rattle.lock.proofs.Planning.{accepted_of, fine_of}
use Rattle.lock.proofs.notes.without_notes.Goals as goal

pub returns : goal.returns
returns c = λ x e.
    let blank : IsBlankLock c.in_ok-sheet.sheet.book c.in_ok-sheet.sheet.notes = search rules in
    let eleven = accepted_of c.in_ok-sheet.sheet.book c.in_ok-sheet.sheet.notes [] blank.0 blank.1 11 c.answer_for.result c.answer_for.ensures tt in
    let twelve = fine_of c.in_ok-sheet.sheet.book c.in_ok-sheet.sheet.notes [] blank.0 blank.1 12 c.answer_for-2.result c.answer_for-2.ensures tt in
    sym (same_Some _ x e) ∙ (λ i. record { eleven = eleven i; twelve = twelve i })
