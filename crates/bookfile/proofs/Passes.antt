-- The two passes over a file: one checks it, the other fills the lent tables.
use Rattle.std.proofs.Common.{◌≡◌, ℕ, ◌≤◌, List, [], ◌∷◌, ◌++◌, length, take, ℤ, Ok, Err, Result, MatchResult, sym, refl, ap, ◌∙◌, subst, arith}
use Rattle.model.specs.Tables.{KeptPast}
use Rattle.books.specs.declared.record.Record.{Record}
use Rattle.fields.specs.Numerals.{Bytes}
use Rattle.fields.specs.Checking.Checked.{good, faulty}
use Rattle.bookfile.specs.declared.entries.Entry.{Entry}
use Rattle.bookfile.specs.declared.entries.Entry.TheVariants.{Outcome, Worth, End}
use Rattle.bookfile.specs.declared.faults.FileFault.{FileFault}
use Rattle.bookfile.specs.declared.progress.Progress.{Progress}
use Rattle.bookfile.specs.declared.progress.Room.{Room}
use Rattle.bookfile.specs.declared.read.ReadBook.{ReadBook}
use Rattle.bookfile.specs.Advance.{so_far, ComeTo, ComeToEnd, CameTo, Declined}
use Rattle.bookfile.specs.Faults.{reported_file}
use Rattle.bookfile.specs.File.{WrittenBook}
use Rattle.bookfile.specs.FileFaults.{Faulty}
use Rattle.bookfile.specs.Reading.{reading}
use Rattle.bookfile.specs.FileCalls.{Holds, CheckAnswers, FillAnswers}
use Rattle.bookfile.specs.Filling.{EntryPut}
use Rattle.bookfile.proofs.Exactness.{reading_is_exact_lem}
use Rattle.bookfile.proofs.Putting.{FilledBy, filled_more}

-- the end of the first pass
pub end_checked : (room : Room) (bs : Bytes) (b : WrittenBook) (a : Result ReadBook FileFault) → MatchResult a (Holds room.records room.worths bs b) (Declined room bs) → CheckAnswers room.records room.worths bs a
end_checked room bs b (Ok r) h = (b, h)
end_checked room bs b (Err f) h = h

abbrev pub room_in : List Record → List ℤ → Room
room_in es zs = record { records = length es; worths = length zs }

-- the second pass has read these records and worths, and the tables hold them
pub record FilledTo (bs : Bytes) (es es' : List Record) (zs zs' : List ℤ) (p : Progress) (left : Bytes) : Type 0 where
  pub read_records : List Record
  pub read_worths : List ℤ
  pub come : ComeTo (room_in es zs) bs p read_records read_worths left
  pub records : FilledBy read_records es es'
  pub worths : FilledBy read_worths zs zs'

module _ (bs : Bytes) (es es' : List Record) (zs zs' : List ℤ) (p p' : Progress) (left left' : Bytes) (i : FilledTo bs es es' zs zs' p left) where
  -- a line more
  pub entry_filled : (y : Entry) (es'' : List Record) (zs'' : List ℤ) → ¬ (y ≡ End) → CameTo (room_in es zs) bs y p' i.read_records i.read_worths left' → EntryPut y p' es' es'' zs' zs'' → FilledTo bs es es'' zs zs'' p' left'
  entry_filled (Outcome e) es'' zs'' more come put =
      record { read_records = i.read_records ++ (e ∷ []); read_worths = i.read_worths; come = come; records = filled_more i.read_records es es' es'' p'.count e come.tells.count_is i.records put.0; worths = subst (FilledBy i.read_worths zs) (sym put.1) i.worths }
  entry_filled (Worth s z) es'' zs'' more come put =
      record { read_records = i.read_records; read_worths = i.read_worths ++ (z ∷ []); come = come; records = subst (FilledBy i.read_records es) (sym put.1) i.records; worths = filled_more i.read_worths zs zs' zs'' p'.worths z come.tells.worths_is i.worths put.0 }
  entry_filled End es'' zs'' more come put = absurd (more refl)

  -- the end of the second pass
  pub end_filled : (a : Result ReadBook FileFault) → p'.sizes.conditions ≤ p'.worths → ComeToEnd (room_in es zs) bs p' i.read_records i.read_worths left' → MatchResult a (Holds (length es) (length zs) bs (so_far p'.sizes i.read_records i.read_worths)) (Declined (room_in es zs) bs) → FillAnswers bs a es es' zs zs'
  end_filled (Ok r) all come h =
      let ds = i.read_records in let ws = i.read_worths in
      let n = h.conditions in let m = h.count in let worths = come.tells.worths_is in let few = p'.few_worths in
      let one_each : r.sizes.conditions ≡ length ws = omega arith in
      let b = so_far p'.sizes ds ws in (
        b,
        (reading_is_exact_lem (length es) (length zs) bs (good b)).1 (sym h.same),
        record {
          conditions = n;
          remedies = h.remedies;
          parts = h.parts;
          count = m;
          records = ap (λ k. take k es') m ∙ i.records.first;
          records_kept = subst (λ k. KeptPast k es es') (sym m) i.records.kept;
          worths = ap (λ k. take k zs') one_each ∙ i.worths.first;
          worths_kept = subst (λ k. KeptPast k zs zs') (sym one_each) i.worths.kept;
        },
      )
  end_filled (Err e) all come h = h

-- a fault that is computed is the first that the format's own terms name
pub fault_exact : (m w : ℕ) (bs : Bytes) (f : FileFault) → reading m w bs ≡ faulty (reported_file f) → Faulty m w bs (reported_file f)
fault_exact m w bs f h = (reading_is_exact_lem m w bs (faulty (reported_file f))).1 (sym h)
