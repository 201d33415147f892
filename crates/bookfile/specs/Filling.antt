-- What is written in the lent tables, line by line.
use Rattle.std.specs.Prelude.{◌≡◌, ℕ, ◌-◌, List, [], ◌∷◌, ◌++◌, take, ℤ}
use Rattle.model.specs.Tables.{KeptPast}
use Rattle.books.specs.declared.record.Record.{Record}
use Rattle.bookfile.specs.declared.entries.Entry.{Entry}
use Rattle.bookfile.specs.declared.entries.Entry.TheVariants.{Outcome, Worth, End}
use Rattle.bookfile.specs.declared.progress.Progress.{Progress}

-- the first n entries of a table are those that stood, and then x; what is past them is kept
pub record PutLast {A : Type 0} (n : ℕ) (x : A) (before after : List A) : Type 0 where
  pub first : take n after ≡ take (n - 1) before ++ (x ∷ [])
  pub kept : KeptPast n before after

-- the entry that was the last to be entered is put in its table, and the other table stays
abbrev pub EntryPut : Entry → Progress → (es es' : List Record) (zs zs' : List ℤ) → Type 0
EntryPut (Outcome e) p es es' zs zs' = PutLast p.count e es es' × (zs' ≡ zs)
EntryPut (Worth s z) p es es' zs zs' = PutLast p.worths z zs zs' × (es' ≡ es)
EntryPut End p es es' zs zs' = (es' ≡ es) × (zs' ≡ zs)
