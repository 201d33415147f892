-- When a book is made, and why not.
use Rattle.std.specs.Prelude.{◌≡◌, ℕ, suc, ◌*◌, ◌<◌, ◌≤◌, ◌⊎◌, List, length, ℤ, pos, Some, None, Ok, Err, Option, Result, slice_index, slice_index_or}
use Rattle.books.specs.declared.record.Record.{Record}
use Rattle.books.specs.declared.refusal.MakingRefusal.{MakingRefusal}
use Rattle.books.specs.declared.refusal.MakingRefusal.TheVariants.{Size, Entry}
use Rattle.books.specs.Alike.{SizesFit}
use Rattle.books.specs.Refusals.{table_number}
use Rattle.books.specs.Entries.{SmallMoney, RecordFits, Rising, no_record}

-- entry i of table t keeps its limits: 1 shares, 2 amounts, 3 worths
abbrev pub TableEntryFits : (parts : ℕ) → List ℕ → List ℤ → List ℤ → (t i : ℕ) → Type 0
TableEntryFits parts shares amounts worths t i = (t ≡ 1 → slice_index shares i ≤ parts) × (t ≡ 2 → SmallMoney (slice_index_or amounts i (pos 0))) × (t ≡ 3 → SmallMoney (slice_index_or worths i (pos 0)))

-- record i keeps its limits, and rises above the one before it
abbrev pub Entered : (c r parts : ℕ) → List Record → ℕ → Type 0
Entered c r parts es i = RecordFits c r parts (slice_index_or es i no_record) × ((k : ℕ) → suc k ≡ i → Rising (slice_index_or es k no_record) (slice_index_or es i no_record))

-- entry i of table t keeps its limits: 1 records, 3 worths
abbrev pub ListEntryFits : (c r parts : ℕ) → List Record → List ℤ → (t i : ℕ) → Type 0
ListEntryFits c r parts es worths t i = (t ≡ 1 → Entered c r parts es i) × (t ≡ 3 → SmallMoney (slice_index_or worths i (pos 0)))

-- an index of one of the three tables, by their lengths
abbrev pub InTable : (first second third t i : ℕ) → Type 0
InTable a b w t i = ((t ≡ 1) × (i < a)) ⊎ (((t ≡ 2) × (i < b)) ⊎ ((t ≡ 3) × (i < w)))

-- by table, then index
abbrev pub Earlier : (t i t' i' : ℕ) → Type 0
Earlier t i t' i' = (t < t') ⊎ ((t ≡ t') × (i < i'))

abbrev pub TableShaped : (c r parts : ℕ) → List ℕ → List ℤ → List ℤ → Type 0
TableShaped c r parts shares amounts worths = SizesFit c r parts × (length shares ≡ c * r * c) × (length amounts ≡ c * r * c) × (length worths ≡ c)

abbrev pub ListShaped : (c r parts : ℕ) → List ℤ → Type 0
ListShaped c r parts worths = SizesFit c r parts × (length worths ≡ c)

-- the answer to tables, from their shape, their places and which entries fit: in order,
-- or the first reason why not
abbrev pub Checked : (shaped : Type 0) → (ℕ → ℕ → Type 0) → (ℕ → ℕ → Type 0) → Result (Unit {0}) MakingRefusal → Type 0
Checked shaped has fits (Ok u) = shaped × ((t i : ℕ) → has t i → fits t i)
Checked shaped has fits (Err Size) = shaped → ⊥
Checked shaped has fits (Err (Entry t i)) = shaped × has (table_number t) i × (fits (table_number t) i → ⊥) × ((t' i' : ℕ) → has t' i' → Earlier t' i' (table_number t) i → fits t' i')

abbrev pub TableChecked : (c r parts : ℕ) → List ℕ → List ℤ → List ℤ → Result (Unit {0}) MakingRefusal → Type 0
TableChecked c r parts shares amounts worths = Checked (TableShaped c r parts shares amounts worths) (InTable (length shares) (length amounts) (length worths)) (TableEntryFits parts shares amounts worths)

abbrev pub ListChecked : (c r parts : ℕ) → List Record → List ℤ → Result (Unit {0}) MakingRefusal → Type 0
ListChecked c r parts es worths = Checked (ListShaped c r parts worths) (InTable (length es) 0 (length worths)) (ListEntryFits c r parts es worths)

-- the first of n places at which P fails, if there is one
abbrev pub FirstFailing : (ℕ → Type 0) → ℕ → Option ℕ → Type 0
FirstFailing P n None = (i : ℕ) → i < n → P i
FirstFailing P n (Some i) = (i < n) × (P i → ⊥) × ((k : ℕ) → k < i → P k)

-- the answer to tables, and to a list, is one
abbrev pub TablesAnsweredOnce : Type 0
TablesAnsweredOnce = (c r parts : ℕ) (shares : List ℕ) (amounts worths : List ℤ) (a b : Result (Unit {0}) MakingRefusal) → TableChecked c r parts shares amounts worths a → TableChecked c r parts shares amounts worths b → a ≡ b

abbrev pub ListsAnsweredOnce : Type 0
ListsAnsweredOnce = (c r parts : ℕ) (es : List Record) (worths : List ℤ) (a b : Result (Unit {0}) MakingRefusal) → ListChecked c r parts es worths a → ListChecked c r parts es worths b → a ≡ b
