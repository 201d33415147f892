use Rattle.planning.specs.Tables.{Valued, RowsWritten}
use Rattle.planning.proofs.judge.fill_values.Given as goal

abbrev pub invariant-loop-past : goal.invariant-loop-past
invariant-loop-past g l =
    let o = g.C.Criterion.ops l.by in
    let m = g.B.Book.model l.book in
    RowsWritten o m (Valued o m) l.visits l.past l.fn.values l.values l.remedies l.remedies
