use Rattle.std.proofs.Common.{◌≡◌}
use Rattle.model.specs.Model.{offers}
use Rattle.checks.specs.Places.{EvenIn}
use Rattle.checks.proofs.Places.{Clear}
use Rattle.checks.proofs.search.first_uneven.Given as goal

abbrev pub invariant-loop-visit : goal.invariant-loop-visit
invariant-loop-visit g l =
    let m = g.B.Book.model l.book in
    (l.visit-iterator.book.now ≡ l.book) × (l.visit-iterator.visits ≡ l.visits) × Clear (offers m) l.visits (EvenIn m) l.visit-iterator.row
