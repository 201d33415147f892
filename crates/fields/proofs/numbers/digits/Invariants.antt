use Rattle.std.proofs.Common.{◌≡◌, ℕ, ◌<◌, ◌≤◌, get_or, take}
use Rattle.fields.specs.Numerals.{value}
use Rattle.fields.proofs.CodeNumerals.{held}
use Rattle.fields.proofs.numbers.digits.Given as goal

abbrev pub invariant-loop-digit : goal.invariant-loop-digit
invariant-loop-digit l = (l.number ≡ held (value (take l.digit-index l.part))) × ((k : ℕ) → k < l.digit-index → (48 ≤ get_or l.part k 0) × (get_or l.part k 0 ≤ 57))
