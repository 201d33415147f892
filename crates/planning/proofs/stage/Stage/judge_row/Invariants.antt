use Rattle.std.proofs.Common.{◌≡◌, ℕ, ◌<◌, get_or}
use Rattle.criteria.specs.Policies.{remedied}
use Rattle.planning.specs.Tables.{at}
use Rattle.planning.proofs.stage.Stage.judge_row.Given as goal

abbrev pub invariant-loop-condition : goal.invariant-loop-condition
invariant-loop-condition g l =
    let o = g.C.Criterion.ops l.self.by.now in
    let m = g.B.Book.model l.self.book.now in
    (s : ℕ) → s < l.condition → at o l.values s ≡ remedied o m l.self.visit l.self.left s (get_or l.remedies s 0) (at o l.self.later.now)
