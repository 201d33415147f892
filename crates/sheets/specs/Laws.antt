-- What holds of every sheet.
use Rattle.std.specs.Prelude.{◌≡◌, ℕ, suc, ◌||◌, T, List, [], ◌∷◌, ◌++◌, length, ◌+ℤ◌, Ok}
use Rattle.model.specs.Model.{Model, Lawful}
use Rattle.sheets.specs.declared.note.Note.{Note}
use Rattle.sheets.specs.Notes.{bars, barred, charge, surcharged, noted}
use Rattle.sheets.specs.Calls.{stands_at, note_at, to_lift}

-- a sheet without notes means what the book means
abbrev pub BlankSheetIsTheBook : Type 0
BlankSheetIsTheBook = (m : Model) → Lawful m → noted m [] ≡ m

-- a note that is entered does what it says, and those before it do what they did
abbrev pub EnteringAddsOne : Type 0
EnteringAddsOne = (ns : List Note) (x : Note) (n s r : ℕ) →
    (barred (ns ++ (x ∷ [])) n s r ≡ (barred ns n s r || bars x n s r)) × (surcharged (ns ++ (x ∷ [])) n r ≡ surcharged ns n r +ℤ charge x n r)

-- lifting takes away what that note does, and nothing else
abbrev pub LiftingTakesOne : Type 0
LiftingTakesOne = (ns : List Note) (place n s r : ℕ) → T (stands_at ns place) →
    (barred ns n s r ≡ (bars (note_at ns place) n s r || barred (to_lift ns place).1 n s r)) × (surcharged ns n r ≡ charge (note_at ns place) n r +ℤ surcharged (to_lift ns place).1 n r)

-- lifting the note entered last undoes the entry
abbrev pub LiftingUndoesEntering : Type 0
LiftingUndoesEntering = (ns : List Note) (x : Note) → to_lift (ns ++ (x ∷ [])) (suc (length ns)) ≡ (Ok (length ns), ns)
