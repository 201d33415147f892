use Rattle.sheets.proofs.Laws.{lifting_takes_one, lifting_undoes_entering}
use Rattle.sheets.proofs.sheet.Sheet.note.Goals as goal

pub returns-clause-law : goal.returns-clause-law
returns-clause-law g c = (lifting_takes_one, lifting_undoes_entering)
