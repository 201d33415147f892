use Rattle.script.proofs.Divided.{parts_are_exact_lem}
use Rattle.script.proofs.laws.parts_are_exact.Goals as goal

pub returns : goal.returns
returns c = parts_are_exact_lem
