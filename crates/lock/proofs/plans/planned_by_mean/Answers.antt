use Rattle.std.proofs.Common.{refl}
use Rattle.books.specs.Lawfuls.{list_book_lawful}
use Rattle.criteria.specs.Mean.{at_least, mean}
use Rattle.criteria.specs.Keeping.{mean_lawful}
use Rattle.lock.specs.Lock.{worked_lock, mean_values, mean_remedies}
use Rattle.lock.proofs.Planning.{planned_as}
use Rattle.lock.proofs.plans.planned_by_mean.Goals as goal

pub returns : goal.returns
returns c =
    let x = planned_as mean at_least mean_lawful _ (list_book_lawful c.lock.result) worked_lock c.lock.ensures 2 _ mean_values _ mean_remedies tt (record { long = refl; past = refl }) (record { long = refl; past = refl }) _ _ _ c.plan_totals-answer.ensures.answers in
    λ i. record { answer = x.0 i; values = x.1 i; remedies = x.2 i }
