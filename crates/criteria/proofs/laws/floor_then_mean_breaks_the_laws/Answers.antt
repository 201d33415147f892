use Rattle.criteria.proofs.laws.floor_then_mean_breaks_the_laws.Goals as goal
use Rattle.criteria.proofs.Mixed.{floor_then_mean_is_lawless}

pub returns : goal.returns
returns c = record { lawless = floor_then_mean_is_lawless }
