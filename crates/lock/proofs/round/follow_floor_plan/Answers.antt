use Rattle.std.proofs.Common.{[], ◌∷◌}
use Rattle.books.specs.Means.{list_means}
use Rattle.books.specs.Lawfuls.{list_book_lawful}
use Rattle.lock.proofs.Leading.{led_as}
use Rattle.lock.proofs.round.follow_floor_plan.Goals as goal

pub returns : goal.returns
returns c =
    let all = led_as (list_means c.lock.result) (list_book_lawful c.lock.result) c.lock.ensures _ _ _ _ (λ i. c.unanswered.ensures i ∷ c.unanswered-2.ensures i ∷ c.unanswered-3.ensures i ∷ c.unanswered-4.ensures i ∷ c.unanswered-5.ensures i ∷ c.unanswered-6.ensures i ∷ []) c.follow-answer.result c.follow-answer.ensures in
    λ i. record { answer = all.0 i; turns = all.1 i }
