use Rattle.criteria.proofs.laws.premises_can_be_met.Goals as goal
use Rattle.criteria.proofs.Example.{premises_can_be_met_lem}

pub returns : goal.returns
returns c = record { met = premises_can_be_met_lem }
