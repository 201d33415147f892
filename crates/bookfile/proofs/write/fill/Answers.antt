use Rattle.std.proofs.Common.{rules}
use Rattle.bookfile.specs.Writing.{book_of}
use Rattle.bookfile.proofs.Writing.{begins_none, begins_more, begins_all}
use Rattle.bookfile.proofs.write.fill.Goals as goal

pub loop-index-init : goal.loop-index-init
loop-index-init c = begins_none (book_of c.args.book.now) c.args.buffer.now

pub loop-index-preserved : goal.loop-index-preserved
loop-index-preserved c = begins_more (book_of c.args.book.now) c.loop-index.index c.loop-index.at c.put-at.result c.line_text.result.bytes c.args.buffer.now c.loop-index.buffer c.put-at.new.buffer (search rules) c.line_text.ensures c.loop-index.invariant c.put-at.ensures.end c.put-at.ensures.bytes c.put-at.ensures.kept

pub returns : goal.returns
returns c = begins_all (book_of c.args.book.now) c.loop-index.index c.loop-index.at c.args.buffer.now c.loop-index.buffer (search rules) c.loop-index.invariant
