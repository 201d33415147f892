use Rattle.checks.proofs.Peaks.{has_a_peak, fits_by_the_peak}
use Rattle.checks.proofs.laws.limit_stands.Goals as goal

pub returns : goal.returns
returns c = record { peak = has_a_peak; fits = fits_by_the_peak }
