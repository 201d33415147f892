use Rattle.std.proofs.Common.{◌≡◌, ◌≤◌, length}
use Rattle.model.specs.Rows.{outcomes}
use Rattle.model.proofs.book.Book.row.Given as goal

abbrev pub invariant-loop-next : goal.invariant-loop-next
invariant-loop-next g l = (length l.row.items ≤ l.next) × (l.row.items ≡ outcomes (g.Self.Book.model l.self) l.visit l.condition l.remedy l.next)
