use Rattle.sheets.proofs.Laws.{entering_adds_one}
use Rattle.sheets.proofs.sheet.Sheet.standing.Goals as goal

pub returns-clause-law : goal.returns-clause-law
returns-clause-law g c = entering_adds_one
