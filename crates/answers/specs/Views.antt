-- What is left to print, as the code holds it.
use Rattle.std.specs.Prelude.{map}
use Rattle.answers.specs.declared.text.Unprinted.{Unprinted}
use Rattle.answers.specs.Requests.{brought_of}
use Rattle.answers.specs.Texts.{Remaining, remaining}

abbrev pub remaining_of : Unprinted → Remaining
remaining_of u = remaining u.turns.now (map brought_of u.requests.now)
