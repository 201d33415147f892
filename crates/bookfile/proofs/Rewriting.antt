-- What was read so far is what the state says, byte by byte, and keeps every limit.
use Rattle.std.proofs.Common.{◌≡◌, ℕ, suc, ◌+◌, ◌≤◌, cond, eqb, ltb, leb, ◌⊎◌, List, [], ◌∷◌, ◌++◌, length, get_or, ℤ, pos, sym, refl, ap, ◌∙◌, subst, inl, inr, ⊎_elim, append_assoc, append-nil, arith, length-append}
use Rattle.std.proofs.lemmas.Bool.{ltb-true, eqb-true, leb-true, cond_both, cases_eq}
use Rattle.books.specs.declared.record.Record.{Record}
use Rattle.books.specs.Entries.{RecordFits}
use Rattle.fields.specs.Numerals.{Bytes}
use Rattle.fields.specs.Lines.{joined, line, split}
use Rattle.fields.specs.Kinds.{LetterOf}
use Rattle.fields.specs.Checking.{reported, size_at, check_line}
use Rattle.fields.specs.Checking.Checked.{good, faulty}
use Rattle.fields.proofs.Splitting.{joined_split}
use Rattle.fields.proofs.Faultless.{good_same, cond_good, then_good, letter_one, LineRead, line_sound}
use Rattle.bookfile.specs.File.{WrittenBook, State, size_fields, record_fields, worth_fields, record_lines, worth_lines, opening, render, line_count, may_stand, form}
use Rattle.bookfile.specs.File.State.{begin, middle, finished}
use Rattle.bookfile.specs.FileFaults.{HasRoom}
use Rattle.bookfile.specs.Reading.{rises_after, record_from, sized, plus_record, plus_worth, enter_line, read_line, read_lines, ReadThenWritten}
use Rattle.bookfile.proofs.Standing.{SoundBook, last_below, sound_record, sound_worth}

record_lines_append : (xs ys : List Record) → record_lines (xs ++ ys) ≡ record_lines xs ++ record_lines ys
record_lines_append [] ys = refl
record_lines_append (x ∷ xs) ys = ap (λ t. line 82 (record_fields x) ++ t) (record_lines_append xs ys) ∙ sym (append_assoc (line 82 (record_fields x)) (record_lines xs) (record_lines ys))

worth_lines_more : (xs : List ℤ) (s : ℕ) (z : ℤ) → worth_lines s (xs ++ (z ∷ [])) ≡ worth_lines s xs ++ line 67 (worth_fields (s + length xs) z)
worth_lines_more [] s z = let n : s ≡ s + 0 = omega arith in append-nil (line 67 (worth_fields s z)) ∙ ap (λ i. line 67 (worth_fields i z)) n
worth_lines_more (x ∷ xs) s z =
    let n : suc s + length xs ≡ s + suc (length xs) = omega arith in
    let t : worth_lines (suc s) (xs ++ (z ∷ [])) ≡ worth_lines (suc s) xs ++ line 67 (worth_fields (s + suc (length xs)) z) = worth_lines_more xs (suc s) z ∙ ap (λ i. worth_lines (suc s) xs ++ line 67 (worth_fields i z)) n in
    ap (λ y. line 67 (worth_fields s x) ++ y) t ∙ sym (append_assoc (line 67 (worth_fields s x)) (worth_lines (suc s) xs) (line 67 (worth_fields (s + suc (length xs)) z)))

no_worths : (ws : List ℤ) → length ws ≡ 0 → worth_lines 0 ws ≡ []
no_worths [] h = refl
no_worths (x ∷ xs) h = absurd (omega arith)

opening_record : (b : WrittenBook) (e : Record) → length b.worths ≡ 0 → opening (plus_record b e) ≡ opening b ++ line 82 (record_fields e)
opening_record b e n =
    let B = line 66 (size_fields b) in
    let L = line 82 (record_fields e) in
    let R = record_lines b.records in
    let w = no_worths b.worths n in
    ap (λ t. B ++ (record_lines (b.records ++ (e ∷ [])) ++ t)) w ∙ (ap (λ t. B ++ t) (append-nil (record_lines (b.records ++ (e ∷ []))) ∙ (record_lines_append b.records (e ∷ []) ∙ ap (λ t. R ++ t) (append-nil L))) ∙ (sym (append_assoc B R L) ∙ ap (λ t. (B ++ t) ++ L) (sym (append-nil R) ∙ ap (λ t. R ++ t) (sym w))))

opening_worth : (b : WrittenBook) (z : ℤ) → opening (plus_worth b z) ≡ opening b ++ line 67 (worth_fields (length b.worths) z)
opening_worth b z =
    let B = line 66 (size_fields b) in
    let L = line 67 (worth_fields (length b.worths) z) in
    let R = record_lines b.records in
    let W = worth_lines 0 b.worths in
    let n : 0 + length b.worths ≡ length b.worths = omega arith in
    ap (λ t. B ++ (R ++ t)) (worth_lines_more b.worths 0 z ∙ ap (λ i. W ++ line 67 (worth_fields i z)) n) ∙ (ap (λ t. B ++ t) (sym (append_assoc R W L)) ∙ sym (append_assoc B (R ++ W) L))

-- where an R line may stand no worth does, and where neither it nor a C line may, the E line is due
stand_record : (b : WrittenBook) (y : ℕ) → LetterOf (may_stand (middle b)) y → y ≡ 82 → length b.worths ≡ 0
stand_record b y = cond_both (leb b.conditions (length b.worths)) (69 ∷ []) (cond (eqb (length b.worths) 0) (82 ∷ 67 ∷ []) (67 ∷ [])) (λ ls. LetterOf ls y → y ≡ 82 → length b.worths ≡ 0) (λ e o q. omega arith) (λ e. cond_both (eqb (length b.worths) 0) (82 ∷ 67 ∷ []) (67 ∷ []) (λ ls. LetterOf ls y → y ≡ 82 → length b.worths ≡ 0) (λ f o q. eqb-true (length b.worths) 0 f) (λ f o q. omega arith))

pub stand_end : (b : WrittenBook) (y : ℕ) → LetterOf (may_stand (middle b)) y → ¬ (y ≡ 82) → ¬ (y ≡ 67) → (y ≡ 69) × (b.conditions ≤ length b.worths)
stand_end b y = cond_both (leb b.conditions (length b.worths)) (69 ∷ []) (cond (eqb (length b.worths) 0) (82 ∷ 67 ∷ []) (67 ∷ [])) (λ ls. LetterOf ls y → ¬ (y ≡ 82) → ¬ (y ≡ 67) → (y ≡ 69) × (b.conditions ≤ length b.worths)) (λ e o p q. (omega arith, leb-true b.conditions (length b.worths) e)) (λ e. cond_both (eqb (length b.worths) 0) (82 ∷ 67 ∷ []) (67 ∷ []) (λ ls. LetterOf ls y → ¬ (y ≡ 82) → ¬ (y ≡ 67) → (y ≡ 69) × (b.conditions ≤ length b.worths)) (λ f o p q. ⊎_elim (λ z. absurd (p z)) (λ r. ⊎_elim (λ z. absurd (q z)) (λ z. absurd z) r) o) (λ f o p q. ⊎_elim (λ z. absurd (q z)) (λ z. absurd z) o))

-- the bytes of the lines before line k brought reading to a book
pub record CameTo (m w : ℕ) (b : WrittenBook) : Type 0 where
  pub sound : SoundBook b
  pub room : HasRoom m w b

abbrev pub Came : (m w : ℕ) → State → (k : ℕ) → Bytes → Type 0
Came m w begin k bs = (k ≡ 1) × (bs ≡ [])
Came m w (middle b) k bs = CameTo m w b × (k ≡ suc (line_count b)) × (bs ≡ opening b)
Came m w (finished b) k bs = CameTo m w b × (length b.worths ≡ b.conditions) × (k ≡ suc (suc (line_count b))) × (bs ≡ render b)

module _ (m w : ℕ) where
  abbrev Goes : WrittenBook → (k : ℕ) → Bytes → Bytes → ℕ → List ℤ → State → Type 0
  Goes b k bs l x zs s' = Came m w (middle b) k bs → LineRead (may_stand (middle b)) (form (middle b)) l (x, zs) → enter_line m w (middle b) k (x, zs) ≡ good s' → Came m w s' (suc k) (bs ++ (l ++ (10 ∷ [])))

  goes_record : (b : WrittenBook) (k : ℕ) (bs l : Bytes) (zs : List ℤ) (s' : State) → Goes b k bs l 82 zs s'
  goes_record b k bs l zs s' c r h =
      let e = record_from zs in
      let a = cond_good (rises_after b.records e) (cond (ltb (length b.records) m) (good (middle (plus_record b e))) (faulty (reported 25 k 0))) (reported 24 k 0) s' h in
      let d = cond_good (ltb (length b.records) m) (good (middle (plus_record b e))) (reported 25 k 0) s' a.1 in
      let n = stand_record b 82 (letter_one (may_stand (middle b)) 82 r.letter) refl in
      let long : length (b.records ++ (e ∷ [])) ≡ suc (length b.records) = simp length-append (omega arith) in
      let free = ltb-true (length b.records) m d.0 in
      let u = r.bounded in
      let u0 = u.0.1 in let u1 = u.1.0.1 in let u2 = u.1.1.0.1 in
      let s = c.0.sound in let sc = s.sizes.some_condition in let sr = s.sizes.some_remedy in
      let g : RecordFits b.conditions b.remedies b.parts e = record { some_condition = omega arith; some_remedy = omega arith; some_next = omega arith; some_share = u.1.1.1.0.0; few_share = u.1.1.1.0.1; small_amount = u.1.1.1.1.0 } in
      let wide = c.0.room.for_worths in
      let at = c.1 in
      subst (λ t. Came m w t (suc k) (bs ++ (l ++ (10 ∷ [])))) (good_same (middle (plus_record b e)) s' d.1)
      (record { sound = sound_record b e s g (last_below b.records e a.0); room = record { for_records = omega arith; for_worths = wide } }, omega arith, ap (λ t. t ++ (l ++ (10 ∷ []))) c.2 ∙ (ap (λ t. opening b ++ (t ++ (10 ∷ []))) r.whole ∙ sym (opening_record b e n)))

  goes_worth : (b : WrittenBook) (k : ℕ) (bs l : Bytes) (zs : List ℤ) (s' : State) → Goes b k bs l 67 zs s'
  goes_worth b k bs l zs s' c r h =
      let z = get_or zs 1 (pos 0) in
      let a = cond_good (eqb (size_at zs 0) (length b.worths)) (cond (ltb (length b.worths) w) (good (middle (plus_worth b z))) (faulty (reported 25 k 0))) (reported 24 k 0) s' h in
      let d = cond_good (ltb (length b.worths) w) (good (middle (plus_worth b z))) (reported 25 k 0) s' a.1 in
      let n = eqb-true (size_at zs 0) (length b.worths) a.0 in
      let long : length (b.worths ++ (z ∷ [])) ≡ suc (length b.worths) = simp length-append (omega arith) in
      let free = ltb-true (length b.worths) w d.0 in
      let u = r.bounded in
      let u0 = u.0.1 in
      let s = c.0.sound in let sc = s.sizes.some_condition in
      let fits = c.0.room.for_records in
      let at = c.1 in
      subst (λ t. Came m w t (suc k) (bs ++ (l ++ (10 ∷ [])))) (good_same (middle (plus_worth b z)) s' d.1)
      (record { sound = sound_worth b z s u.1.0 (omega arith); room = record { for_records = fits; for_worths = omega arith } }, omega arith, ap (λ t. t ++ (l ++ (10 ∷ []))) c.2 ∙ (ap (λ t. opening b ++ (t ++ (10 ∷ []))) r.whole ∙ (ap (λ i. opening b ++ line 67 (worth_fields i z)) n ∙ sym (opening_worth b z))))

  goes_end : (b : WrittenBook) (k : ℕ) (bs l : Bytes) (zs : List ℤ) (s' : State) → Goes b k bs l 69 zs s'
  goes_end b k bs l zs s' c r h =
      let n = (stand_end b 69 (letter_one (may_stand (middle b)) 69 r.letter) (λ q. omega arith) (λ q. omega arith)).1 in
      let few = c.0.sound.few in
      let at = c.1 in
      subst (λ t. Came m w t (suc k) (bs ++ (l ++ (10 ∷ [])))) (good_same (finished b) s' h) (c.0, omega arith, omega arith, ap (λ t. t ++ (l ++ (10 ∷ []))) c.2 ∙ ap (λ t. opening b ++ (t ++ (10 ∷ []))) r.whole)

  goes_any : (b : WrittenBook) (k : ℕ) (bs l : Bytes) (x : ℕ) (zs : List ℤ) (s' : State) → (x ≡ 82) ⊎ (x ≡ 82 → ⊥) → (x ≡ 67) ⊎ (x ≡ 67 → ⊥) → Goes b k bs l x zs s'
  goes_any b k bs l x zs s' (inl e) v c r h = subst (λ y. Goes b k bs l y zs s') (sym e) (goes_record b k bs l zs s') c r h
  goes_any b k bs l x zs s' (inr n) (inl e) c r h = subst (λ y. Goes b k bs l y zs s') (sym e) (goes_worth b k bs l zs s') c r h
  goes_any b k bs l x zs s' (inr n) (inr n') c r h = subst (λ y. Goes b k bs l y zs s') (sym (stand_end b x (letter_one (may_stand (middle b)) x r.letter) n n').0) (goes_end b k bs l zs s') c r h

  -- one line more
  pub came_line : (s s' : State) (k : ℕ) (bs l : Bytes) → Came m w s k bs → read_line m w s k l ≡ good s' → Came m w s' (suc k) (bs ++ (l ++ (10 ∷ [])))
  came_line begin s' k bs l c h =
      let a = then_good (check_line k (may_stand begin) (form begin) l) (enter_line m w begin k) s' h in
      let zs = a.0.1 in
      let r = line_sound k (may_stand begin) (form begin) l a.0 a.1 in
      let x : a.0.0 ≡ 66 = ⊎_elim (λ e. e) (λ z. absurd z) (letter_one (66 ∷ []) a.0.0 r.letter) in
      let u = r.bounded in
      let at = c.0 in
      let fs = size_fields (sized zs) in
      subst (λ t. Came m w t (suc k) (bs ++ (l ++ (10 ∷ [])))) (good_same (middle (sized zs)) s' a.2)
      (record { sound = record { sizes = record { some_condition = u.0.0; few_conditions = u.0.1; some_remedy = u.1.0.0; few_remedies = u.1.0.1; some_parts = u.1.1.0.0; few_parts = u.1.1.0.1 }; entries = λ i q. absurd (omega arith); smalls = λ i d q. absurd (omega arith); few = omega arith }; room = record { for_records = omega arith; for_worths = omega arith } }, omega arith, ap (λ t. t ++ (l ++ (10 ∷ []))) c.1 ∙ (ap (λ t. t ++ (10 ∷ [])) r.whole ∙ (ap (λ i. joined 9 (i ∷ []) fs ++ (10 ∷ [])) x ∙ sym (append-nil (line 66 fs)))))
  came_line (middle b) s' k bs l c h =
      let a = then_good (check_line k (may_stand (middle b)) (form (middle b)) l) (enter_line m w (middle b) k) s' h in
      goes_any b k bs l a.0.0 a.0.1 s' (cases_eq a.0.0 82) (cases_eq a.0.0 67) c (line_sound k (may_stand (middle b)) (form (middle b)) l a.0 a.1) a.2
  came_line (finished b) s' k bs l c h = let q : ◌≡◌ {A = ℕ} 0 1 = cc in absurd (omega arith)

  pub line_joined : (bs l : Bytes) (l' : Bytes) (ls : List Bytes) → (bs ++ (l ++ (10 ∷ []))) ++ joined 10 l' ls ≡ bs ++ joined 10 l (l' ∷ ls)
  line_joined bs l l' ls = append_assoc bs (l ++ (10 ∷ [])) (joined 10 l' ls) ∙ ap (λ x. bs ++ x) (append_assoc l (10 ∷ []) (joined 10 l' ls))

  -- all lines
  pub came_lines : (s : State) (k : ℕ) (bs l : Bytes) (ls : List Bytes) (b : WrittenBook) → Came m w s k bs → read_lines m w s k l ls ≡ good b → CameTo m w b × (length b.worths ≡ b.conditions) × (bs ++ joined 10 l ls ≡ render b)
  came_lines begin k bs l [] b c h = let q : ◌≡◌ {A = ℕ} 0 1 = cc in absurd (omega arith)
  came_lines (middle d) k bs l [] b c h = let q : ◌≡◌ {A = ℕ} 0 1 = cc in absurd (omega arith)
  came_lines (finished d) k bs [] [] b c h = subst (λ x. CameTo m w x × (length x.worths ≡ x.conditions) × (bs ++ [] ≡ render x)) (good_same d b h) (c.0, c.1, append-nil bs ∙ c.3)
  came_lines (finished d) k bs (x ∷ l) [] b c h = let q : ◌≡◌ {A = ℕ} 0 1 = cc in absurd (omega arith)
  came_lines begin k bs l (l' ∷ ls) b c h = let a = then_good (read_line m w begin k l) (λ t. read_lines m w t (suc k) l' ls) b h in subst (λ x. CameTo m w b × (length b.worths ≡ b.conditions) × (x ≡ render b)) (line_joined bs l l' ls) (came_lines a.0 (suc k) (bs ++ (l ++ (10 ∷ []))) l' ls b (came_line begin a.0 k bs l c a.1) a.2)
  came_lines (middle d) k bs l (l' ∷ ls) b c h = let a = then_good (read_line m w (middle d) k l) (λ t. read_lines m w t (suc k) l' ls) b h in subst (λ x. CameTo m w b × (length b.worths ≡ b.conditions) × (x ≡ render b)) (line_joined bs l l' ls) (came_lines a.0 (suc k) (bs ++ (l ++ (10 ∷ []))) l' ls b (came_line (middle d) a.0 k bs l c a.1) a.2)
  came_lines (finished d) k bs l (l' ∷ ls) b c h = let a = then_good (read_line m w (finished d) k l) (λ t. read_lines m w t (suc k) l' ls) b h in absurd (let q : ◌≡◌ {A = ℕ} 0 1 = cc in omega arith)

pub read_then_written : ReadThenWritten
read_then_written m w bs b h = sym (came_lines m w begin 1 [] (split 10 bs).0 (split 10 bs).1 b (refl, refl) h).2 ∙ joined_split 10 bs
