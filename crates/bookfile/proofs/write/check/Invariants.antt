use Rattle.std.proofs.Common.{◌≡◌, ◌+◌, length}
use Rattle.bookfile.specs.Writing.{book_of}
use Rattle.bookfile.proofs.Writing.{front}
use Rattle.bookfile.proofs.write.check.Given as goal

abbrev pub invariant-loop-index : goal.invariant-loop-index
invariant-loop-index l = l.left + length (front (book_of l.book) l.index) ≡ l.room
