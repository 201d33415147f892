use Rattle.std.proofs.Common.{◌≡◌, ◌++◌, [], drop, map, string_bytes}
use Rattle.script.specs.Scripts.{said_of}
use Rattle.answers.specs.Requests.{brought_of}
use Rattle.answers.specs.Texts.{remaining, printed}
use Rattle.answers.specs.Views.{remaining_of}
use Rattle.answers.proofs.text.text_of.Given as goal

abbrev pub invariant-loop-line : goal.invariant-loop-line
invariant-loop-line l = printed l.sizes.conditions (remaining [] (map brought_of l.requests)) (map said_of l.lines) ≡ string_bytes l.out ++ printed l.sizes.conditions (remaining_of l.left) (map said_of (drop l.line-index l.lines))
