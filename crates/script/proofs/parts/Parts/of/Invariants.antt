use Rattle.std.proofs.Common.{length}
use Rattle.script.proofs.Parting.{Ahead}
use Rattle.script.proofs.parts.Parts.of.Given as goal

abbrev pub invariant-loop-line : goal.invariant-loop-line
invariant-loop-line l = Ahead l.input l.first l.rest

abbrev pub decreases-loop-line : goal.decreases-loop-line
decreases-loop-line l = length l.rest
