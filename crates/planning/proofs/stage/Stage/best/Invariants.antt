use Rattle.std.specs.Option.{MatchOption}
use Rattle.planning.specs.Tables.{at}
use Rattle.planning.specs.Choosing.{Best, NoneBelow}
use Rattle.planning.proofs.stage.Stage.best.Given as goal

abbrev pub invariant-loop-remedy : goal.invariant-loop-remedy
invariant-loop-remedy g l = let o = g.C.Criterion.ops l.self.by.now in let m = g.B.Book.model l.self.book.now in MatchOption l.found (NoneBelow m l.self.visit l.condition l.remedy) (λ p. Best o m l.self.visit l.self.left l.condition (at o l.self.later.now) l.remedy p.0 p.1)
