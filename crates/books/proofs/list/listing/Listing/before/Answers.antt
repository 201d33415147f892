use Rattle.std.proofs.Common.{rules}
use borrow.Author.Tests.{tests}
use Rattle.std.proofs.lemmas.List.Sorted.{IsPartitionPoint-from_clause}
use Rattle.books.proofs.Orders.{precedes, precede_first, stand_before}
use Rattle.books.proofs.list.listing.Listing.before.Goals as goal

pub returns : goal.returns
returns c =
    let book = c.args.self.now in
    let at = c.args.place in
    let first = precede_first book.records.now book.placed book.rise at.condition at.remedy at.next c.requires.0 c.requires.1 in
    stand_before book.records.now book.placed book.rise at.condition at.remedy at.next c.requires.0 c.requires.1 _ c.partition_point.ensures.bound (IsPartitionPoint-from_clause (precedes at.condition at.remedy at.next) _ _ c.partition_point.ensures.partitioned first (λ a r q k. search (rules, tests)))
