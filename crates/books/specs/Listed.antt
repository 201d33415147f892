-- What a list of records means.
use Rattle.std.specs.Prelude.{ℕ, Bool, cond, ◌&&◌, List, [], ◌∷◌, ℤ, pos, ◌==◌, slice_index_or}
use Rattle.model.specs.Model.{Model}
use Rattle.books.specs.declared.record.Record.{Record}
use Rattle.books.specs.Alike.{alike}
use Rattle.books.specs.Entries.{no_record}

-- the record is of this condition, remedy and next condition
abbrev pub about : Record → (s x j : ℕ) → Bool
about e s x j = e.condition == s && e.remedy == x && e.next == j

-- the record of a condition, a remedy and a next condition
abbrev pub listed : List Record → (s x j : ℕ) → Record
listed [] s x j = no_record
listed (e ∷ es) s x j = cond (about e s x j) e (listed es s x j)

abbrev pub list_model : (c r parts : ℕ) → List Record → List ℤ → Model
list_model c r parts es worths = alike c r parts (λ s x j. (listed es s x j).share) (λ s x j. (listed es s x j).amount) (λ s. slice_index_or worths s (pos 0))
