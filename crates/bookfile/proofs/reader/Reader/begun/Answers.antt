use Rattle.bookfile.proofs.Advancing.{first_read}
use Rattle.bookfile.proofs.reader.Reader.begun.Goals as goal

pub returns : goal.returns
returns c =
    let q = c.begun-progress.ensures in
    let first = c.in_ok-first.first in
    first_read c.args.room c.args.bytes.now first.number first.text.now c.in_ok-first.rest.now c.in_ok-sizes_of.field-0 c.begun-progress.result c.in_ok-first.ensures c.in_ok-sizes_of.ensures q.0 q.1 q.2 q.3 q.4
