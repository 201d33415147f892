use Rattle.fields.proofs.laws.line_faults_are_exact.Goals as goal
use Rattle.fields.proofs.Digits.{numerals_are_base_ten}
use Rattle.fields.proofs.Faulted.{line_faults_are_exact_lem}

pub returns : goal.returns
returns c = record { numerals = numerals_are_base_ten; faults = line_faults_are_exact_lem }
