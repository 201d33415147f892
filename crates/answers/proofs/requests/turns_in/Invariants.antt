use Rattle.std.proofs.Common.{◌≡◌, ◌++◌, map, drop}
use Rattle.script.specs.Scripts.{said_of}
use Rattle.answers.specs.Requests.{turns_ahead}
use Rattle.answers.proofs.requests.turns_in.Given as goal

abbrev pub invariant-loop-line : goal.invariant-loop-line
invariant-loop-line l = turns_ahead (map said_of l.lines) ≡ l.turns.items ++ turns_ahead (map said_of (drop l.line-index l.lines))
