use Rattle.std.proofs.Common.{ℕ, ◌<◌}
use Rattle.checks.specs.Places.{EvenIn}
use Rattle.checks.proofs.search.uneven_place.Given as goal

abbrev pub invariant-loop-condition : goal.invariant-loop-condition
invariant-loop-condition g l = (s : ℕ) → s < l.condition → EvenIn (g.B.Book.model l.book) l.visit s
