use Rattle.criteria.proofs.laws.means_are_expected_totals.Goals as goal
use Rattle.criteria.proofs.Chances.{chances_are_whole}
use Rattle.criteria.proofs.Expected.{mean_is_expected, no_mean_result_is_held}
use Rattle.criteria.proofs.Best.{mean_plan_is_best}

pub returns : goal.returns
returns c = record { chances = chances_are_whole; expected = mean_is_expected; unheld = no_mean_result_is_held; best = mean_plan_is_best }
