use Rattle.checks.proofs.Peaks.{fits_when}
use Rattle.checks.proofs.limit.fits.Goals as goal

pub returns : goal.returns
returns g c = fits_when (g.B.Book.model c.args.book.now) c.args.visits c.peak.result c.parts.result c.within_limit.result c.peak.ensures c.parts.ensures c.within_limit.ensures
