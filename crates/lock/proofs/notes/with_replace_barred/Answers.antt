use Rattle.std.proofs.Common.{rules, sym, ap, ◌∙◌}
use Rattle.std.proofs.lemmas.Option.{same_Some}
use Rattle.model.specs.Model.{offers}
use Rattle.books.specs.Means.{list_means}
use Rattle.sheets.specs.Calls.{to_bar}
use Rattle.lock.specs.Noted.{IsBlankLock}
use Rattle.lock.proofs.Planning.{accepted_of, stuck_of}
use Rattle.lock.proofs.notes.with_replace_barred.Goals as goal

pub returns : goal.returns
returns c = λ x e.
    let blank : IsBlankLock c.in_ok-sheet.sheet.book c.in_ok-sheet.sheet.notes = search rules in
    let barred = c.bar-note.ensures.answer ∙ (λ i. to_bar (offers (blank.0 i)) (blank.1 i) 3 2 (record { first = 2; last = 2 })) in
    let book = ap list_means c.bar-note.ensures.book ∙ blank.0 in
    let notes = ap (λ p. p.1) barred in
    let one = accepted_of c.bar-note.new.self.book c.bar-note.new.self.notes _ book notes 1 c.answer_for.result c.answer_for.ensures tt in
    let two = stuck_of c.bar-note.new.self.book c.bar-note.new.self.notes _ book notes 2 c.answer_for-2.result c.answer_for-2.ensures 1 3 tt in
    sym (same_Some _ x e) ∙ (λ i. record { note = (barred i).0; one = one i; two = two i })
