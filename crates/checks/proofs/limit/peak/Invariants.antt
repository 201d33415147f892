use Rattle.std.proofs.Common.{◌≡◌, min}
use Rattle.checks.specs.Limit.{greatest}
use Rattle.checks.proofs.limit.peak.Given as goal

abbrev pub invariant-loop-visit : goal.invariant-loop-visit
invariant-loop-visit g l = (l.visit-iterator.book.now ≡ l.book) × (l.visit-iterator.visits ≡ l.visits) × (l.top ≡ greatest (g.B.Book.model l.book) (min l.visit-iterator.row l.visits))
