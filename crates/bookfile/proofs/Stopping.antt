-- Every fault that is computed is the first.
use Rattle.std.proofs.Common.{◌≡◌, ℕ, suc, cond, eqb, ltb, ◌⊎◌, List, [], ◌∷◌, ◌++◌, length, get_or, ℤ, pos, sym, refl, ap, ◌∙◌, subst, inl, inr, ⊎_elim}
use Rattle.std.specs.List.{All}
use Rattle.std.proofs.lemmas.List.Elements.{All-head, All-tail}
use Rattle.std.proofs.lemmas.Bool.{ltb-false, both_ways, cases_eq}
use Rattle.fields.specs.Numerals.{Bytes}
use Rattle.fields.specs.Lines.{joined}
use Rattle.fields.specs.Kinds.Misread.{unended}
use Rattle.fields.specs.Checking.{Reported, reported, size_at, check_line}
use Rattle.fields.specs.Checking.Checked.{good, faulty}
use Rattle.fields.proofs.Splitting.{Other}
use Rattle.fields.proofs.Faulted.{not_both, fault_same, cond_fail, then_fail, line_faults_are_exact_lem}
use Rattle.fields.proofs.Passing.{LineGood, line_fine}
use Rattle.bookfile.specs.File.{WrittenBook, State, line_count, may_stand, form}
use Rattle.bookfile.specs.File.State.{begin, middle, finished}
use Rattle.bookfile.specs.FileFaults.{Opens, GoesOn, Faulty}
use Rattle.bookfile.specs.FileFaults.Faulty.{first_line, later_line, out_of_order, no_space, after_end}
use Rattle.bookfile.specs.Reading.{rises_after, record_from, sized, plus_record, plus_worth, enter_line, read_line, read_rest, read_lines}
use Rattle.bookfile.proofs.Standing.{begun_sound, lawful_sound}
use Rattle.bookfile.proofs.Rewriting.{stand_end, Came, came_line, line_joined}
use Rattle.bookfile.proofs.Turns.{turn_record, record_turn, turn_worth, worth_turn}

module _ (m w : ℕ) where
  opens : (b : WrittenBook) (k : ℕ) (bs rest : Bytes) → Came m w (middle b) k bs → Opens m w b rest (bs ++ rest)
  opens b k bs rest c = record { begun = begun_sound b c.0.sound; room = c.0.room; whole = ap (λ x. x ++ rest) c.2 }

  -- a line with fields in order that cannot be entered
  abbrev Stops : WrittenBook → (k : ℕ) → Bytes → Bytes → ℕ → List ℤ → Reported → Type 0
  Stops b k bs rest x zs f = Came m w (middle b) k bs → LineGood (may_stand (middle b)) (form (middle b)) rest (x, zs) → enter_line m w (middle b) k (x, zs) ≡ faulty f → Faulty m w (bs ++ rest) f

  goes_on : (b : WrittenBook) (rest : Bytes) (x : ℕ) (zs : List ℤ) (g : LineGood (may_stand (middle b)) (form (middle b)) rest (x, zs)) → GoesOn b x g.fields rest
  goes_on b rest x zs g = record { line = g.line; letter = g.letter; fields = g.all_good }

  stops_record : (b : WrittenBook) (k : ℕ) (bs rest : Bytes) (zs : List ℤ) (f : Reported) → Stops b k bs rest 82 zs f
  stops_record b k bs rest zs f c g h =
      let e = record_from zs in
      let o = opens b k bs rest c in
      let on = goes_on b rest 82 zs g in
      ⊎_elim
      (λ a. subst (Faulty m w (bs ++ rest)) (ap (λ x. reported 24 x 0) (sym c.1) ∙ sym a.1) (out_of_order b rest 82 g.fields o on (λ t. both_ways (rises_after b.records e) a.0 (turn_record b g.fields e g.spell t))))
      (λ a. ⊎_elim
      (λ d. subst (Faulty m w (bs ++ rest)) (ap (λ x. reported 25 x 0) (sym c.1) ∙ sym d.1) (no_space b rest 82 g.fields o on (record_turn b g.fields e g.spell a.0) (inl (refl, ltb-false (length b.records) m d.0))))
      (λ d. absurd (not_both (middle (plus_record b e)) f d.1))
      (cond_fail (ltb (length b.records) m) (good (middle (plus_record b e))) (reported 25 k 0) f a.1))
      (cond_fail (rises_after b.records e) (cond (ltb (length b.records) m) (good (middle (plus_record b e))) (faulty (reported 25 k 0))) (reported 24 k 0) f h)

  stops_worth : (b : WrittenBook) (k : ℕ) (bs rest : Bytes) (zs : List ℤ) (f : Reported) → Stops b k bs rest 67 zs f
  stops_worth b k bs rest zs f c g h =
      let s = size_at zs 0 in let z = get_or zs 1 (pos 0) in
      let o = opens b k bs rest c in
      let on = goes_on b rest 67 zs g in
      ⊎_elim
      (λ a. subst (Faulty m w (bs ++ rest)) (ap (λ x. reported 24 x 0) (sym c.1) ∙ sym a.1) (out_of_order b rest 67 g.fields o on (λ t. both_ways (eqb s (length b.worths)) a.0 (turn_worth b g.fields s z g.spell t))))
      (λ a. ⊎_elim
      (λ d. subst (Faulty m w (bs ++ rest)) (ap (λ x. reported 25 x 0) (sym c.1) ∙ sym d.1) (no_space b rest 67 g.fields o on (worth_turn b g.fields s z g.spell a.0) (inr (refl, ltb-false (length b.worths) w d.0))))
      (λ d. absurd (not_both (middle (plus_worth b z)) f d.1))
      (cond_fail (ltb (length b.worths) w) (good (middle (plus_worth b z))) (reported 25 k 0) f a.1))
      (cond_fail (eqb s (length b.worths)) (cond (ltb (length b.worths) w) (good (middle (plus_worth b z))) (faulty (reported 25 k 0))) (reported 24 k 0) f h)

  stops_any : (b : WrittenBook) (k : ℕ) (bs rest : Bytes) (x : ℕ) (zs : List ℤ) (f : Reported) → (x ≡ 82) ⊎ (x ≡ 82 → ⊥) → (x ≡ 67) ⊎ (x ≡ 67 → ⊥) → Stops b k bs rest x zs f
  stops_any b k bs rest x zs f (inl e) v c g h = subst (λ y. Stops b k bs rest y zs f) (sym e) (stops_record b k bs rest zs f) c g h
  stops_any b k bs rest x zs f (inr n) (inl e) c g h = subst (λ y. Stops b k bs rest y zs f) (sym e) (stops_worth b k bs rest zs f) c g h
  stops_any b k bs rest x zs f (inr n) (inr n') c g h = subst (λ y. Stops b k bs rest y zs f) (sym (stand_end b x g.letter n n').0) (λ c' g' h'. absurd (not_both (finished b) f h')) c g h

  line_stops : (s : State) (k : ℕ) (bs l onw : Bytes) (f : Reported) → Came m w s k bs → All (Other 10) l → read_line m w s k l ≡ faulty f → Faulty m w (bs ++ (l ++ (10 ∷ onw))) f
  line_stops begin k bs l onw f c a h = ⊎_elim
      (λ e. let d = (line_faults_are_exact_lem k (may_stand begin) (form begin) l onw f (λ j q. a j 0 q)).0 e in subst (λ x. Faulty m w (x ++ (l ++ (10 ∷ onw))) f) (sym c.1) (subst (Faulty m w (l ++ (10 ∷ onw))) (ap (λ x. reported d.0 x d.1) (sym c.0) ∙ sym d.2) (first_line d.0 d.1 d.3)))
      (λ e. absurd (not_both (middle (sized e.0.1)) f e.2))
      (then_fail (check_line k (may_stand begin) (form begin) l) (enter_line m w begin k) f h)
  line_stops (middle b) k bs l onw f c a h = ⊎_elim
      (λ e. let d = (line_faults_are_exact_lem k (may_stand (middle b)) (form (middle b)) l onw f (λ j q. a j 0 q)).0 e in subst (Faulty m w (bs ++ (l ++ (10 ∷ onw)))) (ap (λ x. reported d.0 x d.1) (sym c.1) ∙ sym d.2) (later_line b (l ++ (10 ∷ onw)) d.0 d.1 (opens b k bs (l ++ (10 ∷ onw)) c) d.3))
      (λ e. stops_any b k bs (l ++ (10 ∷ onw)) e.0.0 e.0.1 f (cases_eq e.0.0 82) (cases_eq e.0.0 67) c (line_fine k (may_stand (middle b)) (form (middle b)) l onw e.0 a e.1) e.2)
      (then_fail (check_line k (may_stand (middle b)) (form (middle b)) l) (enter_line m w (middle b) k) f h)
  line_stops (finished b) k bs l onw f c a h = subst (Faulty m w (bs ++ (l ++ (10 ∷ onw)))) (ap (λ x. reported 26 x 0) (sym c.2) ∙ fault_same {A = State} (reported 26 k 0) f h) (ends l)
    where
      ends : (xs : Bytes) → Faulty m w (bs ++ (xs ++ (10 ∷ onw))) (reported 26 (suc (suc (line_count b))) 0)
      ends [] = after_end b 10 onw (lawful_sound b c.0.sound c.1) c.0.room (ap (λ x. x ++ (10 ∷ onw)) c.3)
      ends (x ∷ xs) = after_end b x (xs ++ (10 ∷ onw)) (lawful_sound b c.0.sound c.1) c.0.room (ap (λ y. y ++ (x ∷ (xs ++ (10 ∷ onw)))) c.3)

  rest_stops : (s : State) (k : ℕ) (bs l : Bytes) (f : Reported) → Came m w s k bs → All (Other 10) l → read_rest m w s k l ≡ faulty f → Faulty m w (bs ++ l) f
  rest_stops begin k bs l f c a h = subst (λ x. Faulty m w (x ++ l) f) (sym c.1) (subst (Faulty m w l) (ap (λ x. reported 26 x 0) (sym c.0) ∙ fault_same {A = WrittenBook} (reported 26 k 0) f h) (first_line 26 0 (unended (λ j q. a j 0 q))))
  rest_stops (middle b) k bs l f c a h = subst (Faulty m w (bs ++ l)) (ap (λ x. reported 26 x 0) (sym c.1) ∙ fault_same {A = WrittenBook} (reported 26 k 0) f h) (later_line b l 26 0 (opens b k bs l c) (unended (λ j q. a j 0 q)))
  rest_stops (finished b) k bs [] f c a h = absurd (not_both b f h)
  rest_stops (finished b) k bs (x ∷ l) f c a h = subst (Faulty m w (bs ++ (x ∷ l))) (ap (λ y. reported 26 y 0) (sym c.2) ∙ fault_same {A = WrittenBook} (reported 26 k 0) f h) (after_end b x l (lawful_sound b c.0.sound c.1) c.0.room (ap (λ y. y ++ (x ∷ l)) c.3))

  pub lines_stop : (s : State) (k : ℕ) (bs l : Bytes) (ls : List Bytes) (f : Reported) → Came m w s k bs → All (Other 10) l → All (All (Other 10)) ls → read_lines m w s k l ls ≡ faulty f → Faulty m w (bs ++ joined 10 l ls) f
  lines_stop s k bs l [] f c a t h = rest_stops s k bs l f c a h
  lines_stop s k bs l (l' ∷ ls) f c a t h = ⊎_elim
      (λ e. line_stops s k bs l (joined 10 l' ls) f c a e)
      (λ e. subst (λ x. Faulty m w x f) (line_joined m w bs l l' ls) (lines_stop e.0 (suc k) (bs ++ (l ++ (10 ∷ []))) l' ls f (came_line m w s e.0 k bs l c e.1) (All-head (All (Other 10)) l' ls t) (All-tail (All (Other 10)) l' ls t) e.2))
      (then_fail (read_line m w s k l) (λ s'. read_lines m w s' (suc k) l' ls) f h)
