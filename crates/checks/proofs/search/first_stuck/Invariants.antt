use Rattle.std.proofs.Common.{◌≡◌}
use Rattle.model.specs.Model.{offers}
use Rattle.model.specs.Visits.{SomeOffered}
use Rattle.checks.proofs.Places.{Clear}
use Rattle.checks.proofs.search.first_stuck.Given as goal

abbrev pub invariant-loop-visit : goal.invariant-loop-visit
invariant-loop-visit g l =
    let o = offers (g.B.Book.model l.book) in
    (l.visit-iterator.book.now ≡ l.book) × (l.visit-iterator.visits ≡ l.visits) × Clear o l.visits (SomeOffered o) l.visit-iterator.row
