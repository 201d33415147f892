use Rattle.std.proofs.Common.{◌≡◌, ◌++◌, map, string_bytes}
use Rattle.answers.specs.Printing.{entry_lines}
use Rattle.answers.proofs.Written.{entry_of}
use Rattle.answers.proofs.text.write_entries.Given as goal

abbrev pub invariant-loop-i : goal.invariant-loop-i
invariant-loop-i l = string_bytes l.out ≡ string_bytes l.fn.out ++ entry_lines l.sizes.conditions (map entry_of l.yielded)
