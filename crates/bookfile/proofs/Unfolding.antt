-- Reading unfolds by one line, as the code reads one.
use Rattle.std.proofs.Common.{◌≡◌, ℕ, suc, ◌<◌, ◌≤◌, ltb, List, [], ◌∷◌, ◌++◌, length, get_or, ℤ, Ok, Err, Result, sym, refl, ap, ◌∙◌, subst, inl, inr, ⊎_elim, arith, length-append, MatchResult}
use lib.Seq.{get_or_at}
use Rattle.std.proofs.lemmas.List.Elements.{All-push, All-get_or, All-from_get_or}
use Rattle.std.proofs.lemmas.Bool.{lt-ltb, le-ltb, cond-true, cond-false, cases_lt, false_from_ne_true}
use Rattle.books.specs.declared.record.Record.{Record}
use Rattle.books.specs.Entries.{no_record, key}
use Rattle.books.proofs.Orders.{key_rising, rising_key}
use Rattle.fields.specs.Numerals.{Bytes}
use Rattle.fields.specs.Lines.{split}
use Rattle.fields.specs.Checking.{reported, and_then, check_line}
use Rattle.fields.specs.Checking.Checked.{good, faulty}
use Rattle.fields.specs.Views.{LineCut}
use Rattle.bookfile.specs.File.{WrittenBook, State, may_stand, form}
use Rattle.bookfile.specs.File.State.{begin, middle}
use Rattle.bookfile.specs.Reading.{rises_after, plus_record, enter_record, enter_line, read_line, read_lines, read_on}
use Rattle.books.specs.declared.sizes.Sizes.{Sizes}
use Rattle.bookfile.specs.declared.entries.Entry.{Entry}
use Rattle.bookfile.specs.declared.progress.Progress.{Progress}
use Rattle.bookfile.specs.Entries.{FitsSizes, FitsEntry, least_after}
use Rattle.bookfile.specs.declared.entries.Entry.TheVariants.{Outcome}
use Rattle.bookfile.specs.declared.faults.FileFault.{FileFault}
use Rattle.bookfile.specs.Faults.{reported_file}
use Rattle.bookfile.specs.Advance.{least_key, so_far, line_of, PlacedWell, PlusRecord, NotEntered, EntryEntered, EntryStopped}
use Rattle.bookfile.proofs.Standing.{AboveLast, above_last, last_below}

module _ (m w : ℕ) where
  -- a line that is ended, with the bytes left after it
  pub read_cut : (s : State) (k n : ℕ) (bs t left : Bytes) → LineCut k bs n t left → read_on m w s k bs ≡ and_then (read_line m w s k t) (λ s'. read_on m w s' (suc k) left)
  read_cut s k n bs t left c = ap (read_lines m w s k (split 10 bs).0) c.later ∙ ap (λ x. and_then (read_line m w s k x) (λ s'. read_on m w s' (suc k) left)) (sym c.first)

  -- the first line and a later one, checked
  pub first_checked : (k : ℕ) (t left : Bytes) (y : ℕ × List ℤ) → check_line k (may_stand begin) (form begin) t ≡ good y → and_then (read_line m w begin k t) (λ s'. read_on m w s' (suc k) left) ≡ and_then (enter_line m w begin k y) (λ s'. read_on m w s' (suc k) left)
  first_checked k t left y h = ap (λ x. and_then (and_then x (enter_line m w begin k)) (λ s'. read_on m w s' (suc k) left)) h

  pub later_checked : (b : WrittenBook) (k : ℕ) (t left : Bytes) (y : ℕ × List ℤ) → check_line k (may_stand (middle b)) (form (middle b)) t ≡ good y → and_then (read_line m w (middle b) k t) (λ s'. read_on m w s' (suc k) left) ≡ and_then (enter_line m w (middle b) k y) (λ s'. read_on m w s' (suc k) left)
  later_checked b k t left y h = ap (λ x. and_then (and_then x (enter_line m w (middle b) k)) (λ s'. read_on m w s' (suc k) left)) h

least_last : (es : List Record) (k : ℕ) → suc k ≡ length es → least_key es ≡ suc (key (get_or es k no_record))
least_last [] k h = absurd (omega arith)
least_last (e ∷ es) k h = let q : length es ≡ k = omega arith in ap (λ i. suc (key (get_or (e ∷ es) i no_record))) q

abbrev pub AllPlacedWell : List Record → Type 0
AllPlacedWell es = (i : ℕ) → i < length es → PlacedWell (get_or es i no_record)

pub key_due : (es : List Record) (e : Record) → AllPlacedWell es → PlacedWell e → least_key es ≤ key e → AboveLast es e
key_due es e all p h k q = let l = least_last es k q in key_rising (get_or es k no_record) e (all k (omega arith)) p (omega arith)

pub due_key : (es : List Record) (e : Record) → AllPlacedWell es → PlacedWell e → AboveLast es e → least_key es ≤ key e
due_key [] e all p h = omega arith
due_key (d ∷ es) e all p h = rising_key (get_or (d ∷ es) (length es) no_record) e (all (length es) (omega arith)) p (h (length es) refl)

pub least_more : (es : List Record) (e : Record) → least_key (es ++ (e ∷ [])) ≡ suc (key e)
least_more es e =
    let n : length (es ++ (e ∷ [])) ≡ suc (length es) = simp length-append (omega arith) in
    least_last (es ++ (e ∷ [])) (length es) (sym n) ∙ ap (λ d. suc (key d)) (get_or_at es e [] no_record (length es) refl)

-- an R line: out of order, without room, entered
module _ (m w : ℕ) (b : WrittenBook) (k : ℕ) (e : Record) (all : AllPlacedWell b.records) (u : PlacedWell e) where
  record_late : key e < least_key b.records → enter_record m w b k e ≡ faulty (reported 24 k 0)
  record_late late = cond-false (rises_after b.records e) _ _ (false_from_ne_true (rises_after b.records e) (λ up. let d = due_key b.records e all u (last_below b.records e up) in omega arith))

  record_full : least_key b.records ≤ key e → m ≤ length b.records → enter_record m w b k e ≡ faulty (reported 25 k 0)
  record_full due full = cond-true (rises_after b.records e) _ _ (above_last b.records e (key_due b.records e all u due)) ∙ cond-false (ltb (length b.records) m) _ _ (le-ltb (length b.records) m full)

  record_entered : least_key b.records ≤ key e → length b.records < m → enter_record m w b k e ≡ good (middle (plus_record b e))
  record_entered due free = cond-true (rises_after b.records e) _ _ (above_last b.records e (key_due b.records e all u due)) ∙ cond-true (ltb (length b.records) m) _ _ (lt-ltb (length b.records) m free)

placed_well : (z : Sizes) (e : Record) → FitsSizes z e → PlacedWell e
placed_well z e h = let few = z.fit.few_conditions in let few' = z.fit.few_remedies in let a = h.remedy in let b = h.next in (omega arith, omega arith)

-- one record more is entered as an entry is, and one that is not stops the reading as an entry does
record_plus : (p : Progress) (e : Record) (p' : Progress) → FitsSizes p.sizes e → PlusRecord p e p' → EntryEntered p (Outcome e) p'
record_plus p e p' h a =
    let u = placed_well p.sizes e h in
    let due = a.due in let free = a.free in let least = a.least in let count = a.count in
    record {
      room = a.room;
      sizes = a.sizes;
      stands = omega arith;
      good_line = λ es ws t. let l = t.least_is in let n = t.count_is in record_entered p.room.records p.room.worths (so_far p.sizes es ws) (line_of p) e t.placed u (omega arith) (omega arith);
      tells = λ es ws t.
          let n : length (es ++ (e ∷ [])) ≡ suc (length es) = simp length-append (omega arith) in
          let l = least_more es e in let q = t.count_is in
          record { least_is = omega arith; count_is = omega arith; worths_is = a.worths ∙ t.worths_is; placed = λ i v. All-get_or PlacedWell (es ++ (e ∷ [])) i no_record v (All-push PlacedWell es e (All-from_get_or PlacedWell es no_record t.placed) u) };
    }

record_not : (p : Progress) (e : Record) (f : FileFault) → FitsSizes p.sizes e → NotEntered (line_of p) (key e < least_after p.last) (p.room.records ≤ p.count) f → EntryStopped p (Outcome e) f
record_not p e f h (inl (q, late)) es ws t =
    let l = t.least_is in
    record_late p.room.records p.room.worths (so_far p.sizes es ws) (line_of p) e t.placed (placed_well p.sizes e h) (omega arith) ∙ ap (λ x. faulty (reported_file x)) (sym q)
record_not p e f h (inr (q, on, full)) es ws t =
    let l = t.least_is in let n = t.count_is in
    record_full p.room.records p.room.worths (so_far p.sizes es ws) (line_of p) e t.placed (placed_well p.sizes e h) (⊎_elim (λ a. absurd (on a)) (λ a. omega arith) (cases_lt (key e) (least_after p.last))) (omega arith) ∙ ap (λ x. faulty (reported_file x)) (sym q)

-- the two, where an entry is a record
pub record_entry : (p p' : Progress) (y : Entry) (e : Record) (a : Result (Unit {0}) FileFault) → y ≡ Outcome e → FitsEntry p.sizes p.worths y → MatchResult a (λ _. PlusRecord p e p') (NotEntered (line_of p) (key e < least_after p.last) (p.room.records ≤ p.count)) → MatchResult a (λ _. EntryEntered p y p') (EntryStopped p y)
record_entry p p' y e a q h = subst (λ (x : Entry). FitsEntry p.sizes p.worths x → MatchResult a (λ _. PlusRecord p e p') (NotEntered (line_of p) (key e < least_after p.last) (p.room.records ≤ p.count)) → MatchResult a (λ _. EntryEntered p x p') (EntryStopped p x)) (sym q) (by_answer a) h
  where
    by_answer : (a : Result (Unit {0}) FileFault) → FitsSizes p.sizes e → MatchResult a (λ _. PlusRecord p e p') (NotEntered (line_of p) (key e < least_after p.last) (p.room.records ≤ p.count)) → MatchResult a (λ _. EntryEntered p (Outcome e) p') (EntryStopped p (Outcome e))
    by_answer (Ok u) h b = record_plus p e p' h b
    by_answer (Err f) h b = record_not p e f h b
