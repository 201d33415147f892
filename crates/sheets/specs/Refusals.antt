-- The numbers by which calls on a sheet are declined.
use Rattle.std.specs.Prelude.{ℕ}
use Rattle.sheets.specs.declared.refusal.NoteRefusal.{NoteRefusal}
use Rattle.sheets.specs.declared.refusal.NoteRefusal.TheVariants.{Unknown, Span, Dear, Full}

abbrev pub number_of : NoteRefusal → ℕ
number_of Unknown = 3
number_of Span = 4
number_of Dear = 5
number_of Full = 6

-- none of them names a visit, a condition or a remedy
abbrev pub places_of : NoteRefusal → ℕ × ℕ × ℕ
places_of x = (0, 0, 0)
