use Rattle.criteria.proofs.laws.floors_are_least_totals.Goals as goal
use Rattle.criteria.proofs.Least.{floor_is_least}
use Rattle.criteria.proofs.Best.{floor_plan_is_best}

pub returns : goal.returns
returns c = record { least = floor_is_least; best = floor_plan_is_best }
