use Rattle.std.proofs.Common.{length, map}
use Rattle.script.specs.Parts.{script_from}
use Rattle.script.specs.Scripts.{said_of}
use Rattle.script.proofs.Parting.{SaidOn}
use Rattle.script.proofs.script.lines_of.Given as goal

abbrev pub invariant-loop-line : goal.invariant-loop-line
invariant-loop-line l = SaidOn (script_from l.parts.first l.parts.script.now) l.number l.rest (map said_of l.lines.items)

abbrev pub decreases-loop-line : goal.decreases-loop-line
decreases-loop-line l = length l.rest
