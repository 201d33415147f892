use Rattle.following.proofs.Covered.{rounds_are_covered_lem}
use Rattle.following.proofs.Led.{floors_are_met}
use Rattle.following.proofs.Answered.{rounds_are_determined}
use Rattle.following.proofs.laws.rounds_are_covered.Goals as goal

pub returns : goal.returns
returns c = record { covered = rounds_are_covered_lem; met = floors_are_met; answered = rounds_are_determined }
