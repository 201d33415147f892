-- What full tables mean.
use Rattle.std.specs.Prelude.{ℕ, ◌+◌, ◌*◌, List, ℤ, pos, slice_index, slice_index_or}
use Rattle.model.specs.Model.{Model}
use Rattle.books.specs.Alike.{alike}

-- where an entry stands in a table by condition, remedy, next
abbrev pub spot : (c r s x j : ℕ) → ℕ
spot c r s x j = (s * r + x) * c + j

abbrev pub table_model : (c r parts : ℕ) → List ℕ → List ℤ → List ℤ → Model
table_model c r parts shares amounts worths = alike c r parts (λ s x j. slice_index shares (spot c r s x j)) (λ s x j. slice_index_or amounts (spot c r s x j) (pos 0)) (λ s. slice_index_or worths s (pos 0))
