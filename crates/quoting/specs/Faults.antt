-- The number and the places of a fault, whatever layer it comes from: those that its layer gave it.
use Rattle.std.specs.Prelude.{ℕ}
use Rattle.fields.specs.Faults.{line_fault_number, line_fault_places}
use Rattle.bookfile.specs.Faults.{file_fault_number, file_fault_places}
use Rattle.checks.specs.Refusals.{refusal_number, refusal_places}
use Rattle.quoting.specs.declared.fault.Fault.{Fault}
use Rattle.quoting.specs.declared.fault.Fault.TheVariants.{Long, Question, File, Plan}

abbrev pub fault_number : Fault → ℕ
fault_number Long = 25
fault_number (Question f) = line_fault_number f
fault_number (File f) = file_fault_number f
fault_number (Plan f) = refusal_number f

abbrev pub fault_places : Fault → ℕ × ℕ × ℕ
fault_places Long = (0, 0, 0)
fault_places (Question f) = line_fault_places f
fault_places (File f) = file_fault_places f
fault_places (Plan f) = refusal_places f
