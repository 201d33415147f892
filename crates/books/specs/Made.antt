-- What making a book answers: the book made, or why none is and the book as it stood.
use Rattle.std.specs.Prelude.{◌≡◌, ℕ, List, ℤ, Ok, Err, Result}
use Rattle.books.specs.declared.record.Record.{Record}
use Rattle.books.specs.declared.refusal.MakingRefusal.{MakingRefusal}
use Rattle.books.specs.declared.list.ListBook.{ListBook}
use Rattle.books.specs.declared.table.TableBook.{TableBook}
use Rattle.books.specs.Listed.{list_model}
use Rattle.books.specs.Tables.{table_model}
use Rattle.books.specs.Making.{ListChecked, TableChecked}
use Rattle.books.specs.Means.{list_means, table_means}

-- the book stands on this list and these worths
pub record OfList (c r p : ℕ) (es : List Record) (ws : List ℤ) (b : ListBook) : Type 0 where
  pub conditions : b.sizes.conditions ≡ c
  pub remedies : b.sizes.remedies ≡ r
  pub parts : b.sizes.parts ≡ p
  pub records : b.listing.records.now ≡ es
  pub worths : b.worths.now ≡ ws
  pub meaning : list_means b ≡ list_model c r p es ws

-- the book of this list and these worths, or why there is none
abbrev pub ListNew : (c r parts : ℕ) → List Record → List ℤ → Result ListBook MakingRefusal → Type 0
ListNew c r parts es worths (Ok b) = ListChecked c r parts es worths (Ok tt) × OfList c r parts es worths b
ListNew c r parts es worths (Err f) = ListChecked c r parts es worths (Err f)

-- a book remade as that, or left as it stood
abbrev pub ListMade : (c r parts : ℕ) → List Record → List ℤ → (b b' : ListBook) → Result (Unit {0}) MakingRefusal → Type 0
ListMade c r parts es worths b b' (Ok u) = ListChecked c r parts es worths (Ok u) × OfList c r parts es worths b'
ListMade c r parts es worths b b' (Err f) = ListChecked c r parts es worths (Err f) × (b' ≡ b)

-- the book stands on these tables
pub record OfTables (c r p : ℕ) (ps : List ℕ) (zs ws : List ℤ) (b : TableBook) : Type 0 where
  pub conditions : b.sizes.conditions ≡ c
  pub remedies : b.sizes.remedies ≡ r
  pub parts : b.sizes.parts ≡ p
  pub shares : b.shares.now ≡ ps
  pub amounts : b.amounts.now ≡ zs
  pub worths : b.worths.now ≡ ws
  pub meaning : table_means b ≡ table_model c r p ps zs ws

-- the book of these tables, or why there is none
abbrev pub TableNew : (c r parts : ℕ) → List ℕ → (amounts worths : List ℤ) → Result TableBook MakingRefusal → Type 0
TableNew c r parts shares amounts worths (Ok b) = TableChecked c r parts shares amounts worths (Ok tt) × OfTables c r parts shares amounts worths b
TableNew c r parts shares amounts worths (Err f) = TableChecked c r parts shares amounts worths (Err f)

-- a book remade as that, or left as it stood
abbrev pub TableMade : (c r parts : ℕ) → List ℕ → (amounts worths : List ℤ) → (b b' : TableBook) → Result (Unit {0}) MakingRefusal → Type 0
TableMade c r parts shares amounts worths b b' (Ok u) = TableChecked c r parts shares amounts worths (Ok u) × OfTables c r parts shares amounts worths b'
TableMade c r parts shares amounts worths b b' (Err f) = TableChecked c r parts shares amounts worths (Err f) × (b' ≡ b)
