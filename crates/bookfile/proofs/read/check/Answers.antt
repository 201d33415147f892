use Rattle.bookfile.specs.Advance.{so_far}
use Rattle.bookfile.proofs.Advancing.{came_on}
use Rattle.bookfile.proofs.Passes.{end_checked}
use Rattle.bookfile.proofs.read.check.Goals as goal

pub returns-in-End : goal.returns-in-End
returns-in-End c =
    let room = c.args.room in
    let bs = c.args.bytes.now in
    let i = c.loop-reader.invariant in
    let come = rw c.in-End.is at (c.in_ok-next.ensures.read room bs i.0 i.1 i.2) in
    end_checked room bs (so_far c.next.new.self.progress.sizes i.0 i.1) c.ended.result (c.ended.ensures.answer room bs i.0 i.1 come)

pub loop-reader-preserved : goal.loop-reader-preserved
loop-reader-preserved c =
    let room = c.args.room in
    let bs = c.args.bytes.now in
    let i = c.loop-reader.invariant in
    let reader = c.next.new.self in
    came_on room bs c.in_ok-next.field-0 reader.progress i.0 i.1 reader.rest.now c.in_default.not-End (c.in_ok-next.ensures.read room bs i.0 i.1 i.2)
