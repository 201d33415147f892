use Rattle.std.proofs.Common.{pos}
use Rattle.std.proofs.lemmas.Result.{err_from_is_err_and}
use Rattle.quoting.specs.Asking.{letter_of}
use Rattle.script.proofs.Tabled.{judge_checked, judge_stopped, judge_good}
use Rattle.script.proofs.reading.judge_in.Goals as goal

pub returns-in_err-remedies : goal.returns-in_err-remedies
returns-in_err-remedies c =
    let p = err_from_is_err_and c.from_residual-in_err-remedies.result c.from_residual-in_err-remedies.ensures.1 in
    rw (p.1, p.2) (λ fs l q n.
    let read = judge_checked c.cut.ensures.field c.cut.ensures.after c.in_ok-by.ensures c.cut-2.ensures.field c.cut-2.ensures.after c.in_ok-visits.ensures fs l q n in
    judge_stopped _ _ (pos (letter_of c.in_ok-by.by)) (pos c.in_ok-visits.visits) c.in_err-remedies.field-0.0 read.3 (c.in_err-remedies.ensures read.0 read.1 read.2))

pub returns : goal.returns
returns c = λ fs l q n.
    let read = judge_checked c.cut.ensures.field c.cut.ensures.after c.in_ok-by.ensures c.cut-2.ensures.field c.cut-2.ensures.after c.in_ok-visits.ensures fs l q n in
    judge_good _ _ c.in_ok-by.by c.in_ok-visits.visits c.in_ok-remedies.remedies.items read.3 (c.in_ok-remedies.ensures read.0 read.1 read.2)
