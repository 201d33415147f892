use Rattle.std.proofs.Common.{◌≡◌, ◌≤◌, length}
use Rattle.model.specs.Rows.{outcomes}
use Rattle.books.specs.Means.{table_means}
use Rattle.books.proofs.table.answers.TableBookBook.row.Given as goal

-- the outcomes up to the next condition stand in the row
abbrev pub invariant-loop-next : goal.invariant-loop-next
invariant-loop-next l = (length l.row.items ≤ l.next) × (l.row.items ≡ outcomes (table_means l.self) l.visit l.condition l.remedy l.next)
