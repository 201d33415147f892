use Rattle.answers.proofs.Once.{one_desk}
use Rattle.answers.proofs.laws.one_output_an_input.Goals as goal

pub returns : goal.returns
returns c = one_desk
