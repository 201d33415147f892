use Rattle.std.proofs.Common.{rules, sym, ap, ◌∙◌, w64, to_z, of_z}
use Rattle.std.proofs.lemmas.Option.{same_Some}
use Rattle.model.specs.Model.{offers}
use Rattle.books.specs.Means.{list_means}
use Rattle.sheets.specs.Calls.{to_surcharge}
use Rattle.lock.specs.Noted.{IsBlankLock}
use Rattle.lock.proofs.Planning.{accepted_of, fine_of}
use Rattle.lock.proofs.notes.with_replace_surcharged.Goals as goal

pub returns-clause-fits : goal.returns-clause-fits
returns-clause-fits c = λ amount x e.
    let blank : IsBlankLock c.in_ok-sheet.sheet.book c.in_ok-sheet.sheet.notes = search rules in
    let dearer = c.surcharge-note.ensures.answer ∙ (λ i. to_surcharge (offers (blank.0 i)) (blank.1 i) 2 (to_z w64 (of_z w64 (amount i))) (record { first = 1; last = 48 })) in
    let eleven = accepted_of c.surcharge-note.new.self.book c.surcharge-note.new.self.notes _ (ap list_means c.surcharge-note.ensures.book ∙ blank.0) (ap (λ p. p.1) dearer) 11 c.answer_for.result c.answer_for.ensures tt in
    sym (same_Some _ x e) ∙ (λ i. record { note = (dearer i).0; eleven = eleven i })

pub returns-clause-too_fine : goal.returns-clause-too_fine
returns-clause-too_fine c = λ amount x e.
    let blank : IsBlankLock c.in_ok-sheet.sheet.book c.in_ok-sheet.sheet.notes = search rules in
    let dearer = c.surcharge-note.ensures.answer ∙ (λ i. to_surcharge (offers (blank.0 i)) (blank.1 i) 2 (to_z w64 (of_z w64 (amount i))) (record { first = 1; last = 48 })) in
    let eleven = fine_of c.surcharge-note.new.self.book c.surcharge-note.new.self.notes _ (ap list_means c.surcharge-note.ensures.book ∙ blank.0) (ap (λ p. p.1) dearer) 11 c.answer_for.result c.answer_for.ensures tt in
    sym (same_Some _ x e) ∙ (λ i. record { note = (dearer i).0; eleven = eleven i })
