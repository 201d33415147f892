-- Reading answers exactly what the format's own terms say.
use Rattle.std.proofs.lemmas.List.Elements.{All-from_get_or}
use Rattle.std.proofs.Common.{◌≡◌, ℕ, suc, ◌+◌, eqb, ltb, ◌⊎◌, List, [], ◌∷◌, length, get_or, ℤ, pos, sym, refl, ap, ◌∙◌, subst, inl, inr, ⊎_elim, arith}
use Rattle.std.proofs.lemmas.Bool.{le-ltb, cond_both, cond-true, cond-false, cases_eq, false_from_ne_true}
use Rattle.fields.specs.Numerals.{Bytes}
use Rattle.fields.specs.Lines.{joined, split, Starts}
use Rattle.fields.specs.Kinds.{Misread}
use Rattle.fields.specs.Checking.{Reported, reported, and_then, size_at}
use Rattle.fields.specs.Checking.Checked.{good, faulty}
use Rattle.fields.proofs.Splitting.{Other, joined_split, split_clear, split_none, started}
use Rattle.fields.proofs.Faultless.{good_same, spelled}
use Rattle.fields.proofs.Faulted.{line_faults_are_exact_lem}
use Rattle.fields.proofs.Passing.{line_passes, misread_line}
use Rattle.bookfile.specs.File.{WrittenBook, line_count, may_stand, form}
use Rattle.bookfile.specs.File.State.{begin, middle, finished}
use Rattle.bookfile.specs.FileFaults.{InTurn, Full, GoesOn, Faulty}
use Rattle.bookfile.specs.FileFaults.Faulty.{first_line, later_line, out_of_order, no_space, after_end}
use Rattle.bookfile.specs.Reading.{rises_after, record_from, enter_line, read_lines, read_on, reading, ReadingIsExact, OneBookAFile, OneFileABook}
use Rattle.bookfile.proofs.Standing.{sound_begun, lawful_sound}
use Rattle.bookfile.proofs.Rereading.{read_on_line, read_opened, read_rendered, written_then_read}
use Rattle.bookfile.proofs.Rewriting.{came_lines, read_then_written}
use Rattle.bookfile.proofs.Turns.{turn_record, record_turn, turn_worth, worth_turn}
use Rattle.bookfile.proofs.Stopping.{lines_stop}

module _ (m w : ℕ) where
  -- a line that is misread
  misread_first : (k : ℕ) (bs : Bytes) (n i : ℕ) → Misread (may_stand begin) (form begin) bs n i → read_on m w begin k bs ≡ faulty (reported n k i)
  misread_first k bs n i h = ⊎_elim
      (λ a. ap (λ p. read_lines m w begin k p.0 p.1) (split_none 10 bs (All-from_get_or (Other 10) bs 0 a.0)) ∙ (ap (λ x. faulty (reported x k 0)) (sym a.1) ∙ ap (λ x. faulty (reported n k x)) (sym a.2)))
      (λ a. let l = a.0 in let onw = a.1 in
      ap (read_on m w begin k) a.3 ∙ (read_on_line m w begin k l onw a.2 ∙ ap (λ x. and_then (and_then x (enter_line m w begin k)) (λ t. read_on m w t (suc k) onw)) ((line_faults_are_exact_lem k (may_stand begin) (form begin) l onw (reported n k i) (λ j q. a.2 j 0 q)).1 (n, i, refl, subst (λ x. Misread (may_stand begin) (form begin) x n i) a.3 h))))
      (misread_line (may_stand begin) (form begin) bs n i h)

  misread_later : (b : WrittenBook) (k : ℕ) (bs : Bytes) (n i : ℕ) → Misread (may_stand (middle b)) (form (middle b)) bs n i → read_on m w (middle b) k bs ≡ faulty (reported n k i)
  misread_later b k bs n i h = ⊎_elim
      (λ a. ap (λ p. read_lines m w (middle b) k p.0 p.1) (split_none 10 bs (All-from_get_or (Other 10) bs 0 a.0)) ∙ (ap (λ x. faulty (reported x k 0)) (sym a.1) ∙ ap (λ x. faulty (reported n k x)) (sym a.2)))
      (λ a. let l = a.0 in let onw = a.1 in
      ap (read_on m w (middle b) k) a.3 ∙ (read_on_line m w (middle b) k l onw a.2 ∙ ap (λ x. and_then (and_then x (enter_line m w (middle b) k)) (λ t. read_on m w t (suc k) onw)) ((line_faults_are_exact_lem k (may_stand (middle b)) (form (middle b)) l onw (reported n k i) (λ j q. a.2 j 0 q)).1 (n, i, refl, subst (λ x. Misread (may_stand (middle b)) (form (middle b)) x n i) a.3 h))))
      (misread_line (may_stand (middle b)) (form (middle b)) bs n i h)

  -- a line with fields in order that is entered with a fault
  line_entered : (b : WrittenBook) (k x : ℕ) (fs : List Bytes) (rest : Bytes) (f : Reported) → GoesOn b x fs rest → ((zs : List ℤ) → fs ≡ spelled (form (middle b) x) 0 zs → enter_line m w (middle b) k (x, zs) ≡ faulty f) → read_on m w (middle b) k rest ≡ faulty f
  line_entered b k x fs rest f g h =
      let s = g.line in
      let l = joined 9 (x ∷ []) fs in
      let d = (started rest (x ∷ []) fs s).0 in
      let p = line_passes k (may_stand (middle b)) (form (middle b)) l s.more x fs d (subst (λ y. Starts y (x ∷ []) fs) s.whole s) g.letter g.fields in
      ap (read_on m w (middle b) k) s.whole ∙ (read_on_line m w (middle b) k l s.more d ∙ (ap (λ y. and_then (and_then y (enter_line m w (middle b) k)) (λ t. read_on m w t (suc k) s.more)) p.1 ∙ ap (λ y. and_then y (λ t. read_on m w t (suc k) s.more)) (h p.0 p.2)))

  late : (b : WrittenBook) (k x : ℕ) (fs : List Bytes) → ¬ InTurn b x fs → (x ≡ 82) ⊎ (x ≡ 82 → ⊥) → (x ≡ 67) ⊎ (x ≡ 67 → ⊥) → (zs : List ℤ) → fs ≡ spelled (form (middle b) x) 0 zs → enter_line m w (middle b) k (x, zs) ≡ faulty (reported 24 k 0)
  late b k x fs n (inl e) v zs = subst (λ y. ¬ InTurn b y fs → fs ≡ spelled (form (middle b) y) 0 zs → enter_line m w (middle b) k (y, zs) ≡ faulty (reported 24 k 0)) (sym e) (λ n' q. cond-false (rises_after b.records (record_from zs)) _ _ (false_from_ne_true (rises_after b.records (record_from zs)) (λ up. n' (record_turn b fs (record_from zs) q up)))) n
  late b k x fs n (inr a) (inl e) zs = subst (λ y. ¬ InTurn b y fs → fs ≡ spelled (form (middle b) y) 0 zs → enter_line m w (middle b) k (y, zs) ≡ faulty (reported 24 k 0)) (sym e) (λ n' q. cond-false (eqb (size_at zs 0) (length b.worths)) _ _ (false_from_ne_true (eqb (size_at zs 0) (length b.worths)) (λ due. n' (worth_turn b fs (size_at zs 0) (get_or zs 1 (pos 0)) q due)))) n
  late b k x fs n (inr a) (inr c) zs = λ q. absurd (n ((λ e. absurd (a e)), (λ e. absurd (c e))))

  filled_up : (b : WrittenBook) (k x : ℕ) (fs : List Bytes) → InTurn b x fs → Full m w b x → (zs : List ℤ) → fs ≡ spelled (form (middle b) x) 0 zs → enter_line m w (middle b) k (x, zs) ≡ faulty (reported 25 k 0)
  filled_up b k x fs t (inl (e, full)) zs = subst (λ y. InTurn b y fs → fs ≡ spelled (form (middle b) y) 0 zs → enter_line m w (middle b) k (y, zs) ≡ faulty (reported 25 k 0)) (sym e) (λ t' q. cond-true (rises_after b.records (record_from zs)) _ _ (turn_record b fs (record_from zs) q t') ∙ cond-false (ltb (length b.records) m) _ _ (le-ltb (length b.records) m full)) t
  filled_up b k x fs t (inr (e, full)) zs = subst (λ y. InTurn b y fs → fs ≡ spelled (form (middle b) y) 0 zs → enter_line m w (middle b) k (y, zs) ≡ faulty (reported 25 k 0)) (sym e) (λ t' q. cond-true (eqb (size_at zs 0) (length b.worths)) _ _ (turn_worth b fs (size_at zs 0) (get_or zs 1 (pos 0)) q t') ∙ cond-false (ltb (length b.worths) w) _ _ (le-ltb (length b.worths) w full)) t

  -- bytes after the E line
  pub surplus : (b : WrittenBook) (k x : ℕ) (rest : Bytes) → read_on m w (finished b) k (x ∷ rest) ≡ faulty (reported 26 k 0)
  surplus b k x rest = cond_both (eqb x 10) _ _ (λ (p : Bytes × List Bytes). read_lines m w (finished b) k p.0 p.1 ≡ faulty (reported 26 k 0)) (λ e. refl) (λ e. after (split 10 rest).1)
    where
      after : (ls : List Bytes) → read_lines m w (finished b) k (x ∷ (split 10 rest).0) ls ≡ faulty (reported 26 k 0)
      after [] = refl
      after (l ∷ ls) = refl

  pub faulty_read : (bs : Bytes) (f : Reported) → Faulty m w bs f → reading m w bs ≡ faulty f
  faulty_read bs f (first_line n i h) = misread_first 1 bs n i h
  faulty_read bs f (later_line b rest n i o h) = ap (reading m w) o.whole ∙ (read_opened m w b rest (sound_begun b o.begun) o.room ∙ misread_later b (suc (line_count b)) rest n i h)
  faulty_read bs f (out_of_order b rest x fs o g n) = ap (reading m w) o.whole ∙ (read_opened m w b rest (sound_begun b o.begun) o.room ∙ line_entered b (suc (line_count b)) x fs rest (reported 24 (suc (line_count b)) 0) g (late b (suc (line_count b)) x fs n (cases_eq x 82) (cases_eq x 67)))
  faulty_read bs f (no_space b rest x fs o g t u) = ap (reading m w) o.whole ∙ (read_opened m w b rest (sound_begun b o.begun) o.room ∙ line_entered b (suc (line_count b)) x fs rest (reported 25 (suc (line_count b)) 0) g (filled_up b (suc (line_count b)) x fs t u))
  faulty_read bs f (after_end b x rest h room e) = ap (reading m w) e ∙ (read_rendered m w b (x ∷ rest) h room ∙ surplus b (suc (suc (line_count b))) x rest)

pub reading_is_exact_lem : ReadingIsExact
reading_is_exact_lem m w bs (good b) = ((λ x. sym (ap (reading m w) x.0 ∙ written_then_read m w b x.1 x.2)), (λ h. let c = came_lines m w begin 1 [] (split 10 bs).0 (split 10 bs).1 b (refl, refl) (sym h) in (sym (read_then_written m w bs b (sym h)), lawful_sound b c.0.sound c.1, c.0.room)))
reading_is_exact_lem m w bs (faulty f) = ((λ x. sym (faulty_read m w bs f x)), (λ h. let d = split_clear 10 bs in subst (λ x. Faulty m w x f) (joined_split 10 bs) (lines_stop m w begin 1 [] (split 10 bs).0 (split 10 bs).1 f (refl, refl) d.0 d.1 (sym h))))

pub one_book_a_file : OneBookAFile
one_book_a_file b d h g e =
    let m = length b.records + length d.records in
    let w = length b.worths + length d.worths in
    good_same b d (sym (written_then_read m w b h (record { for_records = omega arith; for_worths = omega arith })) ∙ (ap (reading m w) e ∙ written_then_read m w d g (record { for_records = omega arith; for_worths = omega arith })))

pub one_file_a_book : OneFileABook
one_file_a_book m w bs cs b h g = h.0 ∙ sym g.0
