-- The limits of what lines say.
use Rattle.std.specs.Prelude.{ℕ, suc, ◌<◌, ◌≤◌, Some, None, Option}
use Rattle.books.specs.declared.record.Record.{Record}
use Rattle.books.specs.declared.record.Place.{Place}
use Rattle.books.specs.declared.sizes.Sizes.{Sizes}
use Rattle.books.specs.Entries.{rank}
use Rattle.bookfile.specs.declared.read.ReadBook.{ReadBook}
use Rattle.bookfile.specs.declared.entries.Entry.{Entry}
use Rattle.bookfile.specs.declared.entries.Entry.TheVariants.{Outcome, Worth, End}

-- a place that a record of some book may have
pub record FitsPlace (q : Place) : Type 0 where
  pub condition : q.condition < 32
  pub remedy : q.remedy < 8
  pub next : q.next < 32

-- the least rank that a record after this place may have, or the first record of all
abbrev pub least_after : Option Place → ℕ
least_after None = 0
least_after (Some q) = suc (rank q.condition q.remedy q.next)

pub record FitsSizes (z : Sizes) (e : Record) : Type 0 where
  pub condition : e.condition < z.conditions
  pub remedy : e.remedy < z.remedies
  pub next : e.next < z.conditions

-- an entry that may come where some worths stand: the end comes after the last of them
abbrev pub FitsEntry : Sizes → (worths : ℕ) → Entry → Type 0
FitsEntry z worths (Outcome e) = FitsSizes z e
FitsEntry z worths (Worth s w) = s < z.conditions
FitsEntry z worths End = z.conditions ≤ worths

-- what was read lies in a list of records and a table of worths of these lengths
pub record Readable (b : ReadBook) (records worths : ℕ) : Type 0 where
  pub records_there : b.count ≤ records
  pub worths_there : b.sizes.conditions ≤ worths
