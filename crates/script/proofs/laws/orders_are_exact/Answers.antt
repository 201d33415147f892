use Rattle.script.proofs.Written.{orders_are_written}
use Rattle.script.proofs.Reread.{orders_are_exact_lem}
use Rattle.script.proofs.laws.orders_are_exact.Goals as goal

pub returns : goal.returns
returns c = record { written = orders_are_written; exact = orders_are_exact_lem }
