-- The floor keeps the laws of totals.
use Rattle.std.proofs.Common.{◌+◌, ◌≤◌, length, ◌≤ℤ◌, sym, subst, arith}
use Rattle.std.proofs.lemmas.Int.{ints}
use Rattle.model.specs.Model.{offers}
use Rattle.criteria.specs.Policies.{value, tabled}
use Rattle.criteria.specs.Floor.{floor}
use Rattle.criteria.specs.Least.{Least}
use Rattle.criteria.proofs.Least.{floor_is_least}
use Rattle.totals.specs.Totals.{LeastTotals, GreatestLeast}
use Rattle.totals.specs.Laws.{ValuesAreTotals, UnbeatenIsGreatest}

pub floors_are_totals : ValuesAreTotals floor LeastTotals
floors_are_totals m H rs vs a values h k s e w i =
    subst (Least m (tabled (offers m) rs) k h s) (sym (values h k s e w i)) (floor_is_least m H (tabled (offers m) rs) a.lawful a.evenly a.few a.policy k h s (omega arith) w i)

pub unbeaten_floor_is_greatest : UnbeatenIsGreatest floor GreatestLeast
unbeaten_floor_is_greatest m H rs a unbeaten q other h k s e w i =
    let l : length h + k ≤ H = omega arith in
    let ours = floor_is_least m H (tabled (offers m) rs) a.lawful a.evenly a.few a.policy k h s l w i in
    let theirs = (floor_is_least m H q a.lawful a.evenly a.few other k h s l w i).hit in
    let good : value floor m q k h s ≤ℤ value floor m (tabled (offers m) rs) k h s = record { le = unbeaten q other h k s e w i } in
    let same = theirs.3 in
    (theirs.0, theirs.1, theirs.2, λ d n o. let low = ours.low d n o in omega (arith, ints))
