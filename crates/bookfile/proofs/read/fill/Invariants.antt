use Rattle.std.proofs.Common.{length}
use Rattle.bookfile.proofs.Passes.{FilledTo}
use Rattle.bookfile.proofs.read.fill.Given as goal

abbrev pub invariant-loop-entry : goal.invariant-loop-entry
invariant-loop-entry l = FilledTo l.bytes l.fn.records l.records l.fn.worths l.worths l.reader.progress l.reader.rest.now

abbrev pub decreases-loop-entry : goal.decreases-loop-entry
decreases-loop-entry l = length l.reader.rest.now
