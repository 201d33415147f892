use Rattle.std.proofs.Common.{◌≡◌, length, string_bytes}
use Rattle.quoting.specs.Printing.{plan_lines}
use Rattle.quoting.proofs.text.plan_text.Given as goal

abbrev pub invariant-loop-i : goal.invariant-loop-i
invariant-loop-i l = string_bytes l.out ≡ plan_lines l.quote.conditions l.values l.remedies (length l.yielded)
