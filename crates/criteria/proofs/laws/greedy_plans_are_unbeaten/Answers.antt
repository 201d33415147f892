use Rattle.criteria.proofs.laws.greedy_plans_are_unbeaten.Goals as goal
use Rattle.criteria.proofs.Optimal.{greedy_is_unbeaten, plan_is_unbeaten, table_is_unbeaten}

pub returns : goal.returns
returns g c = record { greedy = greedy_is_unbeaten _ _; plan = plan_is_unbeaten _ _; table = table_is_unbeaten _ _ }
