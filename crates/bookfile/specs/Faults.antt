-- The number and the three places that a fault of the file is reported by.
use Rattle.std.specs.Prelude.{ℕ}
use Rattle.fields.specs.Faults.{line_fault_number, line_fault_places}
use Rattle.fields.specs.Checking.{Reported, reported}
use Rattle.bookfile.specs.declared.faults.FileFault.{FileFault}
use Rattle.bookfile.specs.declared.faults.FileFault.TheVariants.{Line, Order, Space, Surplus}

abbrev pub file_fault_number : FileFault → ℕ
file_fault_number (Line f) = line_fault_number f
file_fault_number (Order k) = 24
file_fault_number (Space k) = 25
file_fault_number (Surplus k) = 26

abbrev pub file_fault_places : FileFault → ℕ × ℕ × ℕ
file_fault_places (Line f) = line_fault_places f
file_fault_places (Order k) = (k, 0, 0)
file_fault_places (Space k) = (k, 0, 0)
file_fault_places (Surplus k) = (k, 0, 0)

-- the fault as it is reported: its number, line and field
abbrev pub reported_file : FileFault → Reported
reported_file f = reported (file_fault_number f) (file_fault_places f).0 (file_fault_places f).1
