-- The number and the three places that a fault of a field or a line is reported by.
use Rattle.std.specs.Prelude.{ℕ}
use Rattle.fields.specs.declared.faults.FieldFault.{FieldFault}
use Rattle.fields.specs.declared.faults.FieldFault.TheVariants.{Letter, Malformed, Range}
use Rattle.fields.specs.declared.faults.LineFault.{LineFault}
use Rattle.fields.specs.declared.faults.LineFault.TheVariants.{Field, Count, Unended}

abbrev pub field_fault_number : FieldFault → ℕ
field_fault_number (Letter k i) = 20
field_fault_number (Malformed k i) = 22
field_fault_number (Range k i) = 23

-- line and field
abbrev pub field_fault_places : FieldFault → ℕ × ℕ × ℕ
field_fault_places (Letter k i) = (k, i, 0)
field_fault_places (Malformed k i) = (k, i, 0)
field_fault_places (Range k i) = (k, i, 0)

abbrev pub line_fault_number : LineFault → ℕ
line_fault_number (Field f) = field_fault_number f
line_fault_number (Count k) = 21
line_fault_number (Unended k) = 26

abbrev pub line_fault_places : LineFault → ℕ × ℕ × ℕ
line_fault_places (Field f) = field_fault_places f
line_fault_places (Count k) = (k, 0, 0)
line_fault_places (Unended k) = (k, 0, 0)
