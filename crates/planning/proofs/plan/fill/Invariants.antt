use Rattle.planning.specs.Tables.{Chosen, RowsWritten}
use Rattle.planning.proofs.plan.fill.Given as goal

abbrev pub invariant-loop-past : goal.invariant-loop-past
invariant-loop-past g l =
    let o = g.C.Criterion.ops l.by in
    let m = g.B.Book.model l.book in
    RowsWritten o m (Chosen o m) l.visits l.past l.fn.values l.values l.fn.remedies l.remedies
