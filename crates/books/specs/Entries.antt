-- Entries of tables and lists that keep their limits.
use Rattle.std.specs.Prelude.{◌≡◌, ℕ, ◌+◌, ◌*◌, ◌<◌, ◌≤◌, ◌⊎◌, List, length, ℤ, pos, slice_index, slice_index_or, unsigned_abs}
use Rattle.model.specs.declared.row.Outcome.{Outcome}
use Rattle.books.specs.declared.record.Record.{Record}

-- an amount or a worth that may be entered: a million at most, either way
abbrev pub SmallMoney : ℤ → Type 0
SmallMoney z = unsigned_abs z ≤ 1000000

abbrev pub AllSmall : List ℤ → Type 0
AllSmall zs = (i : ℕ) → i < length zs → SmallMoney (slice_index_or zs i (pos 0))

abbrev pub SharesFit : ℕ → List ℕ → Type 0
SharesFit parts shares = (i : ℕ) → i < length shares → slice_index shares i ≤ parts

-- what is unlisted
abbrev pub no_record : Record
no_record = record { condition = 0; remedy = 0; next = 0; share = 0; amount = pos 0 }

-- what a record says may follow
abbrev pub outcome_of : Record → Outcome
outcome_of e = record { next = e.next; share = e.share; amount = e.amount }

-- within the sizes; a listed share is at least 1
pub record RecordFits (c r parts : ℕ) (e : Record) : Type 0 where
  pub some_condition : e.condition < c
  pub some_remedy : e.remedy < r
  pub some_next : e.next < c
  pub some_share : 1 ≤ e.share
  pub few_share : e.share ≤ parts
  pub small_amount : SmallMoney e.amount

-- the same of every record of a list, in two parts
abbrev pub AllPlaced : (c r : ℕ) → List Record → Type 0
AllPlaced c r es = (i : ℕ) → i < length es → ((slice_index_or es i no_record).condition < c) × ((slice_index_or es i no_record).remedy < r) × ((slice_index_or es i no_record).next < c)

abbrev pub AllValued : (parts : ℕ) → List Record → Type 0
AllValued parts es = (i : ℕ) → i < length es → (1 ≤ (slice_index_or es i no_record).share) × ((slice_index_or es i no_record).share ≤ parts) × SmallMoney (slice_index_or es i no_record).amount

-- the order of records: by condition, remedy, next
abbrev pub Rising : Record → Record → Type 0
Rising d e = (d.condition < e.condition) ⊎ ((d.condition ≡ e.condition) × ((d.remedy < e.remedy) ⊎ ((d.remedy ≡ e.remedy) × (d.next < e.next))))

-- the rank of a condition, a remedy and a next condition: one number that rises with them, within the largest sizes
abbrev pub rank : (s x j : ℕ) → ℕ
rank s x j = s * 256 + x * 32 + j

abbrev pub key : Record → ℕ
key e = rank e.condition e.remedy e.next

abbrev pub KeysRise : List Record → Type 0
KeysRise es = (i j : ℕ) → i < j → j < length es → key (slice_index_or es i no_record) < key (slice_index_or es j no_record)

-- the first m of the records stand before the places of this rank and above, the others do not
pub record StandBefore (es : List Record) (rank m : ℕ) : Type 0 where
  pub within : m ≤ length es
  pub below : (i : ℕ) → i < m → key (slice_index_or es i no_record) < rank
  pub above : (i : ℕ) → m ≤ i → i < length es → rank ≤ key (slice_index_or es i no_record)

-- of each row, a row being a condition and a remedy, in order 8 × condition + remedy, and of the end of the
-- last one: starts has how many records stand before it
abbrev pub RowsStart : List Record → (starts : List ℕ) → Type 0
RowsStart es starts = (k : ℕ) → k < 257 → StandBefore es (k * 32) (slice_index starts k)

-- the records of a row: those from the first that does not stand before it to the first that stands after it
pub record IsRow (es : List Record) (s x : ℕ) (row : List Record) : Type 0 where
  pub first : ℕ
  pub from : StandBefore es (rank s x 0) first
  pub to : StandBefore es (rank s x 32) (first + length row)
  pub same : (i : ℕ) → i < length row → slice_index_or row i no_record ≡ slice_index_or es (first + i) no_record
