use Rattle.std.proofs.Common.{refl, ap, ◌∙◌, w64, to_z, of_z}
use Rattle.model.specs.Model.{offers}
use Rattle.books.specs.Means.{list_means}
use Rattle.sheets.specs.Calls.{to_surcharge}
use Rattle.lock.specs.Noted.{tied, untied}
use Rattle.lock.proofs.Planning.{floor_planned_as}
use Rattle.lock.proofs.notes.surcharge_leave.Goals as goal

pub returns-clause-tie : goal.returns-clause-tie
returns-clause-tie c = λ e.
    let a = c.surcharge-note.ensures.answer ∙ (λ i. to_surcharge (offers (c.requires.0 i)) (c.requires.1 i) 0 (to_z w64 (of_z w64 (e i))) (record { first = 1; last = 48 })) in
    let x = floor_planned_as c.surcharge-note.new.self.book c.surcharge-note.new.self.notes _ (ap list_means c.surcharge-note.ensures.book ∙ c.requires.0) (ap (λ p. p.1) a) 1 _ tied.values _ tied.remedies tt (record { long = refl; past = refl }) (record { long = refl; past = refl }) _ _ _ c.plan_totals-answer.ensures.answers in
    λ i. record { note = (a i).0; answer = x.0 i; values = x.1 i; remedies = x.2 i }

pub returns-clause-no_tie : goal.returns-clause-no_tie
returns-clause-no_tie c = λ e.
    let a = c.surcharge-note.ensures.answer ∙ (λ i. to_surcharge (offers (c.requires.0 i)) (c.requires.1 i) 0 (to_z w64 (of_z w64 (e i))) (record { first = 1; last = 48 })) in
    let x = floor_planned_as c.surcharge-note.new.self.book c.surcharge-note.new.self.notes _ (ap list_means c.surcharge-note.ensures.book ∙ c.requires.0) (ap (λ p. p.1) a) 1 _ untied.values _ untied.remedies tt (record { long = refl; past = refl }) (record { long = refl; past = refl }) _ _ _ c.plan_totals-answer.ensures.answers in
    λ i. record { note = (a i).0; answer = x.0 i; values = x.1 i; remedies = x.2 i }
