use Rattle.answers.proofs.LineTexts.{each_line_is_answered}
use Rattle.answers.proofs.laws.each_line_is_answered.Goals as goal

pub returns : goal.returns
returns c = each_line_is_answered
