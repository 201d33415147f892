use Rattle.bookfile.specs.Writing.{book_of, BeginsWith}
use Rattle.bookfile.proofs.Writing.{front}
use Rattle.bookfile.proofs.write.fill.Given as goal

abbrev pub invariant-loop-index : goal.invariant-loop-index
invariant-loop-index l = BeginsWith (front (book_of l.book) l.index) l.at l.fn.buffer l.buffer
