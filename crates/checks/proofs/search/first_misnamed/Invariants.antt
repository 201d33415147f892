use Rattle.std.specs.Iterator.Adapters.{enumerate_source, enumerate_count, take_source, take_count}
use Rattle.std.specs.Slice.Iter.{chunks_exact_rest, chunks_exact_size}
use Rattle.model.specs.Model.{offers}
use Rattle.checks.proofs.Places.{Clear, NamedIn, PartsToCome}
use Rattle.checks.proofs.search.first_misnamed.Given as goal

abbrev pub invariant-loop-row : goal.invariant-loop-row
invariant-loop-row g l =
    let o = offers (g.B.Book.model l.book) in
    let past = enumerate_count l.row-iterator in
    let parts = enumerate_source l.row-iterator in
    let chunks = take_source parts in
    PartsToCome l.remedies l.visits l.conditions past (take_count parts) (chunks_exact_size chunks) (chunks_exact_rest chunks) × Clear o l.visits (NamedIn o l.remedies) past
