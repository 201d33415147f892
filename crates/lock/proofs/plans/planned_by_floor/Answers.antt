use Rattle.std.proofs.Common.{refl}
use Rattle.books.specs.Lawfuls.{list_book_lawful}
use Rattle.criteria.specs.Mean.{at_least}
use Rattle.criteria.specs.Floor.{floor}
use Rattle.criteria.specs.Keeping.{floor_lawful}
use Rattle.lock.specs.Lock.{worked_lock, floor_values, floor_remedies}
use Rattle.lock.proofs.Planning.{planned_as}
use Rattle.lock.proofs.plans.planned_by_floor.Goals as goal

pub returns : goal.returns
returns c =
    let x = planned_as floor at_least floor_lawful _ (list_book_lawful c.lock.result) worked_lock c.lock.ensures 2 _ floor_values _ floor_remedies tt (record { long = refl; past = refl }) (record { long = refl; past = refl }) _ _ _ c.plan_totals-answer.ensures.answers in
    λ i. record { answer = x.0 i; values = x.1 i; remedies = x.2 i }
