use Rattle.std.proofs.Common.{◌≡◌, ℕ, ◌+◌, ◌≤◌, length}
use Rattle.model.specs.Rows.{outcomes}
use Rattle.books.specs.Entries.{StandBefore, IsRow, rank}
use Rattle.books.specs.Means.{list_means}
use Rattle.books.proofs.list.answers.ListBookBook.row.Given as goal

-- the outcomes up to some next condition stand in the row, and the records so far are those before it
abbrev pub invariant-loop-found : goal.invariant-loop-found
invariant-loop-found l =
    (listed : IsRow l.self.listing.records.now l.condition l.remedy l.found-items)
    × (j : ℕ)
    × (j ≤ l.self.sizes.conditions)
    × (length l.row.items ≤ j)
    × (l.row.items ≡ outcomes (list_means l.self) l.visit l.condition l.remedy j)
    × StandBefore l.self.listing.records.now (rank l.condition l.remedy j) (listed.first + l.found-index)
