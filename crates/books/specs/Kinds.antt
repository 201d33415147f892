-- Full tables as a list of records.
use Rattle.std.specs.Prelude.{◌≡◌, ℕ, zero, suc, ◌*◌, ◌<◌, List, [], ◌∷◌, ◌++◌, ℤ, pos, Ok, slice_index, slice_index_or}
use Rattle.books.specs.declared.record.Record.{Record}
use Rattle.books.specs.Making.{ListChecked, TableChecked}
use Rattle.books.specs.Listed.{list_model}
use Rattle.books.specs.Tables.{spot, table_model}

-- the lists of 0, 1, .. up to n, one after another
abbrev pub in_turn : ℕ → (ℕ → List Record) → List Record
in_turn zero f = []
in_turn (suc n) f = in_turn n f ++ f n

-- the record of an outcome, if its share is above 0
abbrev pub positive : (s x j share : ℕ) → ℤ → List Record
positive s x j zero amount = []
positive s x j (suc n) amount = record { condition = s; remedy = x; next = j; share = suc n; amount = amount } ∷ []

-- the records of a table's positive shares, by condition, remedy, next
abbrev pub positive_records : (c r : ℕ) → List ℕ → List ℤ → List Record
positive_records c r shares amounts = in_turn c (λ s. in_turn r (λ x. in_turn c (λ j. positive s x j (slice_index shares (spot c r s x j)) (slice_index_or amounts (spot c r s x j) (pos 0)))))

-- where the amounts of share 0 are 0, the list of the positive shares means what the tables mean
abbrev pub KindsAgree : Type 0
KindsAgree = (c r parts : ℕ) (shares : List ℕ) (amounts worths : List ℤ) → ((i : ℕ) → i < c * r * c → slice_index shares i ≡ 0 → slice_index_or amounts i (pos 0) ≡ pos 0) → list_model c r parts (positive_records c r shares amounts) worths ≡ table_model c r parts shares amounts worths

-- where a book can be made of the tables, one can be made of that list
abbrev pub PositivesMakeAList : Type 0
PositivesMakeAList = (c r parts : ℕ) (shares : List ℕ) (amounts worths : List ℤ) → TableChecked c r parts shares amounts worths (Ok tt) → ListChecked c r parts (positive_records c r shares amounts) worths (Ok tt)
