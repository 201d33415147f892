-- Reading comes on by one line, as the reader of the code does.
use Rattle.std.proofs.Common.{◌≡◌, ℕ, suc, ◌+◌, List, [], ◌∷◌, ◌++◌, length, ℤ, Ok, sym, refl, ap, ◌∙◌, subst, arith, length-append}
use Rattle.books.specs.declared.record.Record.{Record}
use Rattle.books.specs.declared.sizes.Sizes.{Sizes}
use Rattle.fields.specs.Numerals.{Bytes}
use Rattle.fields.specs.Checking.{Checked, reported, and_then, check_line}
use Rattle.fields.specs.Checking.Checked.{good, faulty}
use Rattle.fields.specs.Views.{LineCut}
use Rattle.bookfile.specs.declared.entries.Entry.{Entry}
use Rattle.bookfile.specs.declared.entries.Entry.TheVariants.{Outcome, Worth, End}
use Rattle.bookfile.specs.declared.faults.FileFault.{FileFault}
use Rattle.bookfile.specs.declared.faults.FileFault.TheVariants.{Surplus}
use Rattle.bookfile.specs.declared.progress.Progress.{Progress}
use Rattle.bookfile.specs.declared.progress.Room.{Room}
use Rattle.bookfile.specs.Faults.{reported_file}
use Rattle.bookfile.specs.File.{WrittenBook, State, may_stand, form, next_letters, next_form}
use Rattle.bookfile.specs.File.State.{begin, middle, finished}
use Rattle.bookfile.specs.Reading.{enter_line, read_on, reading}
use Rattle.bookfile.specs.Entered.{size_values, entry_values, SizesRead, EntryRead}
use Rattle.bookfile.specs.Entries.{least_after}
use Rattle.bookfile.specs.Advance.{so_far, line_of, EntryEntered, EntryStopped, ComeTo, ComeToEnd, CameTo, Declined, records_with, worths_with, state_with, Comes}
use Rattle.bookfile.proofs.Unfolding.{read_cut, first_checked, later_checked}
use Rattle.bookfile.proofs.Exactness.{surplus}

module _ (room : Room) (bs : Bytes) where
  -- the first line is read
  pub first_read : (n : ℕ) (t left : Bytes) (z : Sizes) (p : Progress) → LineCut 1 bs n t left → SizesRead n t (Ok z) → p.room ≡ room → p.sizes ≡ z → least_after p.last ≡ 0 → p.count ≡ 0 → p.worths ≡ 0 → ComeTo room bs p [] [] left
  first_read n t left z p c h at same_sizes least count worths =
      let two : 2 ≡ line_of p = omega arith in
      record {
        room_is = at;
        tells = record { least_is = least; count_is = count; worths_is = worths; placed = λ i q. absurd (omega arith) };
        same = read_cut room.records room.worths begin 1 n bs t left c ∙ (first_checked room.records room.worths 1 t left (66, size_values z) (subst (λ x. check_line x (may_stand begin) (form begin) t ≡ good (66, size_values z)) c.numbered h) ∙ (ap (λ k. read_on room.records room.worths (middle (so_far z [] [])) k left) two ∙ ap (λ x. read_on room.records room.worths (middle (so_far x [] [])) (line_of p) left) (sym same_sizes)));
      }

  module _ (p : Progress) (es : List Record) (ws : List ℤ) (rest : Bytes) (come : ComeTo room bs p es ws rest) where
    abbrev so : WrittenBook
    so = so_far p.sizes es ws

    -- a later line: not entered, entered
    checks : (k : ℕ) (t : Bytes) (a : Checked (ℕ × List ℤ)) → k ≡ line_of p → check_line k (next_letters p.sizes.conditions p.worths) (next_form p.sizes.conditions p.sizes.remedies p.sizes.parts) t ≡ a → check_line (line_of p) (may_stand (middle so)) (form (middle so)) t ≡ a
    checks k t a q h = subst (λ x. check_line (line_of p) (next_letters p.sizes.conditions x) (next_form p.sizes.conditions p.sizes.remedies p.sizes.parts) t ≡ a) come.tells.worths_is (subst (λ x. check_line x (next_letters p.sizes.conditions p.worths) (next_form p.sizes.conditions p.sizes.remedies p.sizes.parts) t ≡ a) q h)

    module _ (k n : ℕ) (t left : Bytes) (at : k ≡ line_of p) (here : LineCut k rest n t left) where
      cut : LineCut (line_of p) rest n t left
      cut = subst (λ x. LineCut x rest n t left) at here

      goes : (y : Entry) (a : Checked State) → EntryRead p.sizes p.worths n t (Ok y) → enter_line p.room.records p.room.worths (middle so) (line_of p) (entry_values y) ≡ a → reading room.records room.worths bs ≡ and_then a (λ s. read_on room.records room.worths s (suc (line_of p)) left)
      goes y a h e =
          let e' = subst (λ (r : Room). enter_line r.records r.worths (middle so) (line_of p) (entry_values y) ≡ a) come.room_is e in
          come.same ∙ (read_cut room.records room.worths (middle so) (line_of p) n rest t left cut ∙ (later_checked room.records room.worths so (line_of p) t left (entry_values y) (checks n t (good (entry_values y)) cut.numbered h) ∙ ap (λ x. and_then x (λ s. read_on room.records room.worths s (suc (line_of p)) left)) e'))

      pub line_stopped : (y : Entry) (f : FileFault) → EntryRead p.sizes p.worths n t (Ok y) → EntryStopped p y f → Declined room bs f
      line_stopped y f h s = goes y (faulty (reported_file f)) h (s es ws come.tells)

      comes : (state : WrittenBook → State) (y : Entry) (p' : Progress) (next : ℕ) → EntryRead p.sizes p.worths n t (Ok y) → EntryEntered p y p' → state_with y so ≡ state (so_far p.sizes (records_with y es) (worths_with y ws)) → suc (line_of p) ≡ next → Comes state room bs p' (records_with y es) (worths_with y ws) next left
      comes state y p' next h s e on =
          let es' = records_with y es in let ws' = worths_with y ws in
          record {
            room_is = s.room ∙ come.room_is;
            tells = s.tells es ws come.tells;
            same = goes y (good (state_with y so)) h (s.good_line es ws come.tells) ∙ (ap (λ x. read_on room.records room.worths x (suc (line_of p)) left) (e ∙ ap (λ z. state (so_far z es' ws')) (sym s.sizes)) ∙ ap (λ x. read_on room.records room.worths (state (so_far p'.sizes es' ws')) x left) on);
          }

      pub line_entered : (y : Entry) (p' : Progress) → EntryRead p.sizes p.worths n t (Ok y) → EntryEntered p y p' → CameTo room bs y p' es ws left
      line_entered (Outcome e) p' h s =
          let a = come.tells in let a' = s.tells es ws come.tells in
          let long : length (es ++ (e ∷ [])) ≡ suc (length es) = simp length-append (omega arith) in
          let q = a.count_is in let v = a.worths_is in let q' = a'.count_is in let v' = a'.worths_is in
          comes middle (Outcome e) p' (line_of p') h s refl (omega arith)
      line_entered (Worth i z) p' h s =
          let a = come.tells in let a' = s.tells es ws come.tells in
          let long : length (ws ++ (z ∷ [])) ≡ suc (length ws) = simp length-append (omega arith) in
          let q = a.count_is in let v = a.worths_is in let q' = a'.count_is in let v' = a'.worths_is in
          comes middle (Worth i z) p' (line_of p') h s refl (omega arith)
      line_entered End p' h s =
          let a = come.tells in let a' = s.tells es ws come.tells in
          let q = a.count_is in let v = a.worths_is in let q' = a'.count_is in let v' = a'.worths_is in
          comes finished End p' (line_of p' + 1) h s refl (omega arith)

-- bytes after the E line
pub line_surplus : (room : Room) (bs : Bytes) (p : Progress) (es : List Record) (ws : List ℤ) (rest : Bytes) (k : ℕ) → k ≡ line_of p + 1 → ¬ (length rest ≡ 0) → ComeToEnd room bs p es ws rest → Declined room bs (Surplus k)
line_surplus room bs p es ws [] k at some come = absurd (some refl)
line_surplus room bs p es ws (x ∷ rest) k at some come = come.same ∙ (surplus room.records room.worths (so_far p.sizes es ws) (line_of p + 1) x rest ∙ ap (λ n. faulty (reported 26 n 0)) (sym at))

-- the next line was not the last
pub came_on : (room : Room) (bs : Bytes) (y : Entry) (p : Progress) (es : List Record) (ws : List ℤ) (left : Bytes) → ¬ (y ≡ End) → CameTo room bs y p es ws left → (es' : List Record) × (ws' : List ℤ) × ComeTo room bs p es' ws' left
came_on room bs (Outcome e) p es ws left more come = (es ++ (e ∷ []), ws, come)
came_on room bs (Worth s z) p es ws left more come = (es, ws ++ (z ∷ []), come)
came_on room bs End p es ws left more come = absurd (more refl)
