use Rattle.std.proofs.Common.{◌≡◌, ◌++◌, length, map}
use Rattle.script.specs.Scripts.{said_of}
use Rattle.answers.specs.Requests.{requests_of, brought_of}
use Rattle.answers.proofs.requests.requests_in.Given as goal

abbrev pub invariant-loop-line : goal.invariant-loop-line
invariant-loop-line l = requests_of l.sizes.conditions (map said_of l.lines) ≡ map brought_of l.requests.items ++ requests_of l.sizes.conditions (map said_of l.left)

abbrev pub decreases-loop-line : goal.decreases-loop-line
decreases-loop-line l = length l.left
