use Rattle.bookfile.proofs.Passes.{room_in, entry_filled, end_filled}
use Rattle.bookfile.proofs.read.fill.Goals as goal

pub loop-entry-preserved : goal.loop-entry-preserved
loop-entry-preserved c =
    let bs = c.args.bytes.now in let es = c.args.records.now in let zs = c.args.worths.now in
    let before = c.loop-entry in let reader = c.next.new.self in
    let i = before.invariant in
    entry_filled bs es before.records zs before.worths before.reader.progress reader.progress before.reader.rest.now reader.rest.now i c.in_ok-entry.entry c.put.new.records c.put.new.worths c.in_default.not-End (c.in_ok-entry.ensures.read (room_in es zs) bs i.read_records i.read_worths i.come) c.put.ensures

pub returns-in-End-clause-filled : goal.returns-in-End-clause-filled
returns-in-End-clause-filled c =
    let bs = c.args.bytes.now in let es = c.args.records.now in let zs = c.args.worths.now in
    let before = c.loop-entry in let reader = c.next.new.self in
    let i = before.invariant in
    let come = rw c.in-End.is at (c.in_ok-entry.ensures.read (room_in es zs) bs i.read_records i.read_worths i.come) in
    end_filled bs es before.records zs before.worths before.reader.progress reader.progress before.reader.rest.now reader.rest.now i c.ended.result (rw c.in-End.is at c.in_ok-entry.ensures.stands) come (c.ended.ensures.answer (room_in es zs) bs i.read_records i.read_worths come)
