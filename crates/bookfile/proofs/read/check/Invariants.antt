use Rattle.std.proofs.Common.{List, length, ℤ}
use Rattle.books.specs.declared.record.Record.{Record}
use Rattle.bookfile.specs.Advance.{ComeTo}
use Rattle.bookfile.proofs.read.check.Given as goal

abbrev pub invariant-loop-reader : goal.invariant-loop-reader
invariant-loop-reader l = (es : List Record) × (ws : List ℤ) × ComeTo l.fn.room l.bytes l.reader.progress es ws l.reader.rest.now

abbrev pub decreases-loop-reader : goal.decreases-loop-reader
decreases-loop-reader l = length l.reader.rest.now
