use Rattle.std.proofs.lemmas.Result.{err_from_is_err_and}
use Rattle.bookfile.proofs.Advancing.{line_stopped, line_entered}
use Rattle.bookfile.proofs.reader.Reader.next.Goals as goal

pub returns-in_err-enter-clause-read : goal.returns-in_err-enter-clause-read
returns-in_err-enter-clause-read c =
    let p = err_from_is_err_and c.from_residual-in_err-enter.result c.from_residual-in_err-enter.ensures.1 in
    let line = c.in_ok-line.line in
    rw (p.1, p.2) (λ room bs es ws come. line_stopped room bs c.args.self.now.progress es ws c.args.self.now.rest.now come c.line.result line.number line.text.now c.in_ok-line.rest.now c.line.ensures c.in_ok-line.ensures c.in_ok-entry.entry c.in_err-enter.field-0.0 c.in_ok-entry.ensures.read c.in_err-enter.ensures)

pub returns-clause-read : goal.returns-clause-read
returns-clause-read c =
    let line = c.in_ok-line.line in
    λ room bs es ws come. line_entered room bs c.args.self.now.progress es ws c.args.self.now.rest.now come c.line.result line.number line.text.now c.in_ok-line.rest.now c.line.ensures c.in_ok-line.ensures c.in_ok-entry.entry c.enter.new.self c.in_ok-entry.ensures.read c.in_ok-enter.ensures
