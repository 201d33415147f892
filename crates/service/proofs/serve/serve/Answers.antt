use Rattle.std.proofs.Common.{arith}
use Rattle.service.proofs.Progress.{onward}
use Rattle.service.proofs.serve.serve.Goals as goal

pub loop-request-preserved : goal.loop-request-preserved
loop-request-preserved g c =
    let e = c.perform.ensures in
    onward g.C.Criterion.ops g.B.Book.model _ _ _ _ _ _ _ _ _ _ _ _ c.loop-request.invariant c.loop-request.auto.requests (omega arith) e.answers e.notes e.book
