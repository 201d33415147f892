use Rattle.std.proofs.Common.{◌≡◌, take}
use Rattle.planning.specs.Tables.{at}
use Rattle.planning.proofs.Steps.{account_of}
use Rattle.planning.proofs.stage.Stage.account.Given as goal

abbrev pub invariant-loop-outcome : goal.invariant-loop-outcome
invariant-loop-outcome g l = let o = g.C.Criterion.ops l.self.by.now in l.sum ≡ account_of o l.self.left (g.B.Book.model l.self.book.now).parts (at o l.self.later.now) (take l.outcome-index l.outcome-items)
