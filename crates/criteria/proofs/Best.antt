-- The plans of the two criteria are best in the subject's own words.
use Rattle.std.proofs.Common.{◌+◌, ◌≤◌, length, ◌≤ℤ◌, arith}
use Rattle.std.proofs.lemmas.Int.{ints}
use Rattle.criteria.specs.Policies.{value}
use Rattle.criteria.specs.Optimal.{ruled}
use Rattle.criteria.specs.Mean.{mean, at_least}
use Rattle.criteria.specs.Floor.{floor}
use Rattle.criteria.specs.Keeping.{mean_lawful, floor_lawful}
use Rattle.criteria.specs.Best.{MeanPlanIsBest, FloorPlanIsBest}
use Rattle.criteria.proofs.Histories.{books_offer_their_own}
use Rattle.criteria.proofs.Optimal.{plan_is_unbeaten}
use Rattle.criteria.proofs.Expected.{mean_is_expected}
use Rattle.criteria.proofs.Least.{floor_is_least}

pub mean_plan_is_best : MeanPlanIsBest
mean_plan_is_best m visits c lawful even fits few plan q policy h k s e w i =
    let all = plan_is_unbeaten mean at_least m visits c mean_lawful lawful few plan in
    let own = books_offer_their_own m lawful in
    let l : length h + k ≤ visits = omega arith in
    let a = mean_is_expected m visits (ruled c) own lawful.some_parts even fits all.0 k h s l w i in
    let b = mean_is_expected m visits q own lawful.some_parts even fits policy k h s l w i in
    let good : value mean m q k h s ≤ℤ value mean m (ruled c) k h s = record { le = all.1 q policy h k s e w i } in
    omega (arith, ints)

pub floor_plan_is_best : FloorPlanIsBest
floor_plan_is_best m visits c lawful even few plan q policy h k s e w i =
    let all = plan_is_unbeaten floor at_least m visits c floor_lawful lawful few plan in
    let l : length h + k ≤ visits = omega arith in
    let a = floor_is_least m visits (ruled c) lawful even few all.0 k h s l w i in
    let b = (floor_is_least m visits q lawful even few policy k h s l w i).hit in
    let good : value floor m q k h s ≤ℤ value floor m (ruled c) k h s = record { le = all.1 q policy h k s e w i } in
    let same = b.3 in
    (b.0, b.1, b.2, λ d n o. let low = a.low d n o in omega (arith, ints))
