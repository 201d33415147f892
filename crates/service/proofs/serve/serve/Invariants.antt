use Rattle.service.proofs.Progress.{Progress}
use Rattle.service.proofs.serve.serve.Given as goal

abbrev pub invariant-loop-request : goal.invariant-loop-request
invariant-loop-request g l = Progress g.C.Criterion.ops g.B.Book.model l.fn.sheet.book l.fn.sheet.notes l.fn.requests l.requests l.sheet.book l.sheet.notes l.request-index
