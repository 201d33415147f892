-- The mean keeps the laws of totals.
use Rattle.std.proofs.Common.{◌+◌, ◌≤◌, length, ◌≤ℤ◌, ◌∙◌, arith}
use Rattle.std.proofs.lemmas.Int.{ints}
use Rattle.model.specs.Model.{offers}
use Rattle.criteria.specs.Policies.{value, tabled}
use Rattle.criteria.specs.Mean.{mean}
use Rattle.criteria.proofs.Histories.{books_offer_their_own}
use Rattle.criteria.proofs.Chances.{chances_are_whole}
use Rattle.criteria.proofs.Expected.{mean_is_expected, no_mean_result_is_held}
use Rattle.totals.specs.Totals.{ExpectedTotals, GreatestExpected}
use Rattle.totals.specs.Laws.{ValuesAreTotals, UnbeatenIsGreatest}

pub means_are_totals : ValuesAreTotals mean ExpectedTotals
means_are_totals m H rs vs a values =
    let own = books_offer_their_own m a.lawful in
    record {
      totals = λ h k s e w i. values h k s e w i ∙ mean_is_expected m H (tabled (offers m) rs) own a.lawful.some_parts a.evenly a.fitting a.policy k h s (omega arith) w i;
      weights = λ h k s e w i. chances_are_whole m H (tabled (offers m) rs) own a.evenly a.policy k h s (omega arith) w i;
      unheld = no_mean_result_is_held m H (tabled (offers m) rs) own a.lawful.some_parts a.evenly a.fitting a.policy;
    }

pub unbeaten_mean_is_greatest : UnbeatenIsGreatest mean GreatestExpected
unbeaten_mean_is_greatest m H rs a unbeaten q other h k s e w i =
    let own = books_offer_their_own m a.lawful in
    let l : length h + k ≤ H = omega arith in
    let ours = mean_is_expected m H (tabled (offers m) rs) own a.lawful.some_parts a.evenly a.fitting a.policy k h s l w i in
    let theirs = mean_is_expected m H q own a.lawful.some_parts a.evenly a.fitting other k h s l w i in
    let good : value mean m q k h s ≤ℤ value mean m (tabled (offers m) rs) k h s = record { le = unbeaten q other h k s e w i } in
    omega (arith, ints)
