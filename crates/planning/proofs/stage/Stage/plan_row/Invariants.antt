use Rattle.std.proofs.Common.{ℕ, ◌<◌, get_or}
use Rattle.planning.specs.Choosing.{Best}
use Rattle.planning.specs.Tables.{at}
use Rattle.planning.proofs.stage.Stage.plan_row.Given as goal

abbrev pub invariant-loop-condition : goal.invariant-loop-condition
invariant-loop-condition g l =
    let o = g.C.Criterion.ops l.self.by.now in
    let m = g.B.Book.model l.self.book.now in
    (s : ℕ) → s < l.condition → Best o m l.self.visit l.self.left s (at o l.self.later.now) m.remedies (get_or l.remedies s 0) (at o l.values s)
