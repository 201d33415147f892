use Rattle.std.proofs.Common.{◌≡◌, ℕ, ◌<◌, false, eqb, get_or, take}
use Rattle.std.specs.List.{count_by}
use Rattle.fields.proofs.lines.end_of.Given as goal

abbrev pub invariant-loop-at : goal.invariant-loop-at
invariant-loop-at l = (l.tabs ≡ count_by (λ x. eqb x 9) (take l.at l.bytes)) × ((k : ℕ) → k < l.at → eqb (get_or l.bytes k 0) 10 ≡ false)
