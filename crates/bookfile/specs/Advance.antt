-- How far reading has come, as the code holds it, and one line more.
use Rattle.std.specs.Prelude.{◌≡◌, ℕ, suc, ◌+◌, ◌<◌, ◌≤◌, ◌⊎◌, List, [], ◌∷◌, ◌++◌, length, ℤ, slice_index_or}
use Rattle.books.specs.declared.record.Record.{Record}
use Rattle.books.specs.declared.sizes.Sizes.{Sizes}
use Rattle.books.specs.Entries.{no_record, key}
use Rattle.fields.specs.Numerals.{Bytes}
use Rattle.fields.specs.Checking.Checked.{good, faulty}
use Rattle.bookfile.specs.declared.entries.Entry.{Entry}
use Rattle.bookfile.specs.declared.entries.Entry.TheVariants.{Outcome, Worth, End}
use Rattle.bookfile.specs.declared.faults.FileFault.{FileFault}
use Rattle.bookfile.specs.declared.faults.FileFault.TheVariants.{Order, Space}
use Rattle.bookfile.specs.declared.progress.Progress.{Progress}
use Rattle.bookfile.specs.declared.progress.Room.{Room}
use Rattle.bookfile.specs.Entered.{entry_values}
use Rattle.bookfile.specs.Entries.{least_after}
use Rattle.bookfile.specs.Faults.{reported_file}
use Rattle.bookfile.specs.File.{WrittenBook, State}
use Rattle.bookfile.specs.File.State.{middle, finished}
use Rattle.bookfile.specs.Reading.{plus_record, plus_worth, enter_line, read_on, reading}

-- the least key of a record that may come next
abbrev pub least_key : List Record → ℕ
least_key [] = 0
least_key (e ∷ es) = suc (key (slice_index_or (e ∷ es) (length es) no_record))

-- the book of which some lines were read: its sizes, its records and its worths
abbrev pub so_far : Sizes → List Record → List ℤ → WrittenBook
so_far z es ws = record { conditions = z.conditions; remedies = z.remedies; parts = z.parts; records = es; worths = ws }

-- within the largest sizes, so that keys order records
abbrev pub PlacedWell : Record → Type 0
PlacedWell e = (e.remedy < 8) × (e.next < 32)

-- these records and worths stand
pub record Tells (p : Progress) (es : List Record) (ws : List ℤ) : Type 0 where
  pub least_is : least_after p.last ≡ least_key es
  pub count_is : p.count ≡ length es
  pub worths_is : p.worths ≡ length ws
  pub placed : (i : ℕ) → i < length es → PlacedWell (slice_index_or es i no_record)

-- the number of the line that comes next
abbrev pub line_of : Progress → ℕ
line_of p = p.count + p.worths + 2

-- why line k is not entered: out of order, or else without room
abbrev pub NotEntered : (k : ℕ) (late full : Type 0) → FileFault → Type 0
NotEntered k late full f = ((f ≡ Order k) × late) ⊎ ((f ≡ Space k) × ¬ late × full)

-- one record more, which may come and has room; one worth more, which has room
pub record PlusRecord (p : Progress) (e : Record) (p' : Progress) : Type 0 where
  pub due : least_after p.last ≤ key e
  pub free : p.count < p.room.records
  pub room : p'.room ≡ p.room
  pub sizes : p'.sizes ≡ p.sizes
  pub least : least_after p'.last ≡ key e + 1
  pub count : p'.count ≡ p.count + 1
  pub worths : p'.worths ≡ p.worths

pub record PlusWorth (p p' : Progress) : Type 0 where
  pub free : p.worths < p.room.worths
  pub room : p'.room ≡ p.room
  pub sizes : p'.sizes ≡ p.sizes
  pub least : least_after p'.last ≡ least_after p.last
  pub count : p'.count ≡ p.count
  pub worths : p'.worths ≡ p.worths + 1

-- what stands after an entry
abbrev pub records_with : Entry → List Record → List Record
records_with (Outcome e) es = es ++ (e ∷ [])
records_with (Worth s z) es = es
records_with End es = es

abbrev pub worths_with : Entry → List ℤ → List ℤ
worths_with (Outcome e) ws = ws
worths_with (Worth s z) ws = ws ++ (z ∷ [])
worths_with End ws = ws

abbrev pub state_with : Entry → WrittenBook → State
state_with (Outcome e) b = middle (plus_record b e)
state_with (Worth s z) b = middle (plus_worth b z)
state_with End b = finished b

-- an entry was the last to be entered: its record stands, or its worth stands last, or all worths stand
abbrev pub Stands : Entry → Progress → Type 0
Stands (Outcome e) p = 1 ≤ p.count
Stands (Worth s z) p = s + 1 ≡ p.worths
Stands End p = p.sizes.conditions ≤ p.worths

-- an entry where these records and worths stand: it is entered, with this progress after it, or not
pub record EntryEntered (p : Progress) (y : Entry) (p' : Progress) : Type 0 where
  pub room : p'.room ≡ p.room
  pub sizes : p'.sizes ≡ p.sizes
  pub stands : Stands y p'
  pub good_line : (es : List Record) (ws : List ℤ) → Tells p es ws → enter_line p.room.records p.room.worths (middle (so_far p.sizes es ws)) (line_of p) (entry_values y) ≡ good (state_with y (so_far p.sizes es ws))
  pub tells : (es : List Record) (ws : List ℤ) → Tells p es ws → Tells p' (records_with y es) (worths_with y ws)

abbrev pub EntryStopped : Progress → Entry → FileFault → Type 0
EntryStopped p y f = (es : List Record) (ws : List ℤ) → Tells p es ws → enter_line p.room.records p.room.worths (middle (so_far p.sizes es ws)) (line_of p) (entry_values y) ≡ faulty (reported_file f)

-- reading some bytes comes to this progress, where these records and worths stand, and to bytes that are left from line k on:
-- more lines, or those after the E line
pub record Comes (state : WrittenBook → State) (room : Room) (bs : Bytes) (p : Progress) (es : List Record) (ws : List ℤ) (k : ℕ) (left : Bytes) : Type 0 where
  pub room_is : p.room ≡ room
  pub tells : Tells p es ws
  pub same : reading room.records room.worths bs ≡ read_on room.records room.worths (state (so_far p.sizes es ws)) k left

abbrev pub ComeTo : Room → Bytes → Progress → List Record → List ℤ → Bytes → Type 0
ComeTo room bs p es ws left = Comes middle room bs p es ws (line_of p) left

abbrev pub ComeToEnd : Room → Bytes → Progress → List Record → List ℤ → Bytes → Type 0
ComeToEnd room bs p es ws left = Comes finished room bs p es ws (line_of p + 1) left

-- one line further, which said this, from where these records and worths stood
abbrev pub CameTo : Room → Bytes → Entry → Progress → List Record → List ℤ → Bytes → Type 0
CameTo room bs (Outcome e) p es ws left = ComeTo room bs p (es ++ (e ∷ [])) ws left
CameTo room bs (Worth s z) p es ws left = ComeTo room bs p es (ws ++ (z ∷ [])) left
CameTo room bs End p es ws left = ComeToEnd room bs p es ws left

-- reading some bytes finds this fault
abbrev pub Declined : Room → Bytes → FileFault → Type 0
Declined room bs f = reading room.records room.worths bs ≡ faulty (reported_file f)
