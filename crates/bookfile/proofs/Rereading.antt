-- What was written is read back.
use Rattle.std.proofs.Common.{◌≡◌, ℕ, suc, ◌+◌, ◌-◌, ◌<◌, ◌≤◌, true, cond, eqb, ltb, List, [], ◌∷◌, ◌++◌, length, get_or, ℤ, pos, sym, refl, ap, ◌∙◌, subst, append_assoc, append-nil, arith, lit≤, length-append}
use lib.ListN.{get_or-append}
use lib.Seq.{get_or-append_seam}
use Rattle.std.specs.List.{All}
use Rattle.std.proofs.lemmas.List.Elements.{All-from_recursion, All-nil, All-cons, All-head, All-tail, All-weaker}
use Rattle.std.proofs.lemmas.Bool.{eq-eqb, cond_both, cond-true, le-leb, lt-ltb, lt-leb}
use Rattle.books.specs.declared.record.Record.{Record}
use Rattle.books.specs.Alike.{SizesFit}
use Rattle.books.specs.Entries.{SmallMoney, RecordFits, Rising, no_record}
use Rattle.books.specs.Making.{Entered}
use Rattle.fields.specs.Numerals.{Bytes}
use Rattle.fields.specs.Lines.{joined, line}
use Rattle.fields.specs.Checking.{and_then, is_letter}
use Rattle.fields.specs.Checking.Checked.{good}
use Rattle.fields.proofs.Splitting.{Other, split_line, joined_all}
use Rattle.fields.proofs.Faultless.{Dark, numeral_dark, signed_dark, check_number, check_signed, line_good}
use Rattle.fields.proofs.Faultless.Passes.{none, one}
use Rattle.bookfile.specs.File.{WrittenBook, State, size_fields, record_fields, worth_fields, record_lines, worth_lines, opening, render, line_count, may_stand, form}
use Rattle.bookfile.specs.File.State.{begin, middle, finished}
use Rattle.bookfile.specs.FileFaults.{LawfulBook, HasRoom}
use Rattle.bookfile.specs.Reading.{rises_after, enter_line, read_line, read_lines, read_on, WrittenThenRead}
use Rattle.bookfile.proofs.Standing.{SoundBook, above_last, sound_lawful}

abbrev pub book : (c r p : ℕ) → List Record → List ℤ → WrittenBook
book c r p es ws = record { conditions = c; remedies = r; parts = p; records = es; worths = ws }

pub record_dark : (e : Record) → All (All Dark) (record_fields e)
record_dark e = All-from_recursion (All Dark) (record_fields e) (numeral_dark e.condition, (numeral_dark e.remedy, (numeral_dark e.next, (numeral_dark e.share, (signed_dark e.amount, tt)))))

pub worth_dark : (s : ℕ) (z : ℤ) → All (All Dark) (worth_fields s z)
worth_dark s z = All-from_recursion (All Dark) (worth_fields s z) (numeral_dark s, (signed_dark z, tt))

pub size_dark : (b : WrittenBook) → All (All Dark) (size_fields b)
size_dark b = All-from_recursion (All Dark) (size_fields b) (numeral_dark b.conditions, (numeral_dark b.remedies, (numeral_dark b.parts, tt)))

module _ (m w : ℕ) where
  -- one line at a time
  pub read_on_line : (s : State) (k : ℕ) (l bs : Bytes) → All (Other 10) l → read_on m w s k (l ++ (10 ∷ bs)) ≡ and_then (read_line m w s k l) (λ s'. read_on m w s' (suc k) bs)
  read_on_line s k l bs a = ap (λ p. read_lines m w s k p.0 p.1) (split_line 10 l bs a)

  pub step : (s s' : State) (k l : ℕ) (fs : List Bytes) (rest : Bytes) → Dark l → All (All Dark) fs → read_line m w s k (joined 9 (l ∷ []) fs) ≡ good s' → read_on m w s k (line l fs ++ rest) ≡ read_on m w s' (suc k) rest
  step s s' k l fs rest d ds h = ap (read_on m w s k) (append_assoc (joined 9 (l ∷ []) fs) (10 ∷ []) rest) ∙ (read_on_line s k (joined 9 (l ∷ []) fs) rest (joined_all (Other 10) 9 (l ∷ []) fs (λ q. omega arith) (All-cons (Other 10) l [] (λ q. omega arith) (All-nil (Other 10))) (All-weaker (All Dark) (All (Other 10)) (All-weaker Dark (Other 10) (λ x g q. omega arith)) fs ds)) ∙ ap (λ x. and_then x (λ t. read_on m w t (suc k) rest)) h)

  read_first : (c r p k : ℕ) → SizesFit c r p → read_line m w begin k (joined 9 (66 ∷ []) (size_fields (book c r p [] []))) ≡ good (middle (book c r p [] []))
  read_first c r p k s = ap (λ x. and_then x (enter_line m w begin k)) (line_good k 66 (may_stand begin) (form begin) (size_fields (book c r p [] [])) (pos c ∷ pos r ∷ pos p ∷ []) (lit≤ tt) (size_dark (book c r p [] [])) refl refl (one (check_number k 2 1 32 c s.some_condition s.few_conditions) (one (check_number k 3 1 8 r s.some_remedy s.few_remedies) (one (check_number k 4 1 1000 p s.some_parts s.few_parts) none))))

  module _ (c r p : ℕ) (some : 1 ≤ c) where
    read_record : (es : List Record) (k : ℕ) (e : Record) → RecordFits c r p e → rises_after es e ≡ true → length es < m → read_line m w (middle (book c r p es [])) k (joined 9 (82 ∷ []) (record_fields e)) ≡ good (middle (book c r p (es ++ (e ∷ [])) []))
    read_record es k e h up room =
        let h0 = h.some_condition in let h1 = h.some_remedy in let h2 = h.some_next in
        ap (λ x. and_then x (enter_line m w (middle (book c r p es [])) k)) (line_good k 82 (may_stand (middle (book c r p es []))) (form (middle (book c r p es []))) (record_fields e) (pos e.condition ∷ pos e.remedy ∷ pos e.next ∷ pos e.share ∷ e.amount ∷ []) (lit≤ tt) (record_dark e) (ap (λ x. is_letter (cond x (69 ∷ []) (82 ∷ 67 ∷ [])) (82 ∷ [])) (lt-leb c 0 (omega arith))) refl (one (check_number k 2 0 (c - 1) e.condition (omega arith) (omega arith)) (one (check_number k 3 0 (r - 1) e.remedy (omega arith) (omega arith)) (one (check_number k 4 0 (c - 1) e.next (omega arith) (omega arith)) (one (check_number k 5 1 p e.share h.some_share h.few_share) (one (check_signed k 6 1000000 e.amount h.small_amount) none)))))) ∙ (cond-true (rises_after es e) _ _ up ∙ cond-true (ltb (length es) m) _ _ (lt-ltb (length es) m room))

    read_worth : (es : List Record) (ws : List ℤ) (k : ℕ) (z : ℤ) → SmallMoney z → length ws < c → length ws < w → read_line m w (middle (book c r p es ws)) k (joined 9 (67 ∷ []) (worth_fields (length ws) z)) ≡ good (middle (book c r p es (ws ++ (z ∷ []))))
    read_worth es ws k z small due room = ap (λ x. and_then x (enter_line m w (middle (book c r p es ws)) k)) (line_good k 67 (may_stand (middle (book c r p es ws))) (form (middle (book c r p es ws))) (worth_fields (length ws) z) (pos (length ws) ∷ z ∷ []) (lit≤ tt) (worth_dark (length ws) z) (ap (λ x. is_letter (cond x (69 ∷ []) (cond (eqb (length ws) 0) (82 ∷ 67 ∷ []) (67 ∷ []))) (67 ∷ [])) (lt-leb c (length ws) due) ∙ cond_both (eqb (length ws) 0) (82 ∷ 67 ∷ []) (67 ∷ []) (λ x. is_letter x (67 ∷ []) ≡ true) (λ e. refl) (λ e. refl)) refl (one (check_number k 2 0 (c - 1) (length ws) (omega arith) (omega arith)) (one (check_signed k 3 1000000 z small) none))) ∙ (cond-true (eqb (length ws) (length ws)) _ _ (eq-eqb (length ws) (length ws) refl) ∙ cond-true (ltb (length ws) w) _ _ (lt-ltb (length ws) w room))

    pub read_end : (es : List Record) (ws : List ℤ) (k : ℕ) → c ≤ length ws → read_line m w (middle (book c r p es ws)) k (69 ∷ []) ≡ good (finished (book c r p es ws))
    read_end es ws k all = ap (λ x. and_then x (enter_line m w (middle (book c r p es ws)) k)) (line_good k 69 (may_stand (middle (book c r p es ws))) (form (middle (book c r p es ws))) [] [] (lit≤ tt) (All-nil (All Dark)) (ap (λ x. is_letter (cond x (69 ∷ []) (cond (eqb (length ws) 0) (82 ∷ 67 ∷ []) (67 ∷ []))) (69 ∷ [])) (le-leb c (length ws) all)) refl none)

    read_worths : (es : List Record) (zs ws : List ℤ) (k : ℕ) (rest : Bytes) → All SmallMoney zs → length ws + length zs ≤ c → length ws + length zs ≤ w → read_on m w (middle (book c r p es ws)) k (worth_lines (length ws) zs ++ rest) ≡ read_on m w (middle (book c r p es (ws ++ zs))) (k + length zs) rest
    read_worths es [] ws k rest a n room = let z : k ≡ k + 0 = omega arith in ap (λ x. read_on m w (middle (book c r p es x)) k rest) (sym (append-nil ws)) ∙ ap (λ x. read_on m w (middle (book c r p es (ws ++ []))) x rest) z
    read_worths es (z ∷ zs) ws k rest a n room =
        let len : length (ws ++ (z ∷ [])) ≡ suc (length ws) = simp length-append (omega arith) in
        let n' : length ws + suc (length zs) ≤ c = n in
        let room' : length ws + suc (length zs) ≤ w = room in
        let on : suc k + length zs ≡ k + suc (length zs) = omega arith in
        ap (read_on m w (middle (book c r p es ws)) k) (append_assoc (line 67 (worth_fields (length ws) z)) (worth_lines (suc (length ws)) zs) rest) ∙ (step (middle (book c r p es ws)) (middle (book c r p es (ws ++ (z ∷ [])))) k 67 (worth_fields (length ws) z) (worth_lines (suc (length ws)) zs ++ rest) (lit≤ tt) (worth_dark (length ws) z) (read_worth es ws k z (All-head SmallMoney z zs a) (omega arith) (omega arith)) ∙ (ap (λ x. read_on m w (middle (book c r p es (ws ++ (z ∷ [])))) (suc k) (worth_lines x zs ++ rest)) (sym len) ∙ (read_worths es zs (ws ++ (z ∷ [])) (suc k) rest (All-tail SmallMoney z zs a) (omega arith) (omega arith) ∙ (ap (λ x. read_on m w (middle (book c r p es x)) (suc k + length zs) rest) (append_assoc ws (z ∷ []) zs) ∙ ap (λ x. read_on m w (middle (book c r p es (ws ++ (z ∷ zs)))) x rest) on))))

    Follows : List Record → List Record → Type 0
    Follows done [] = Unit {0}
    Follows done (e ∷ es) = RecordFits c r p e × (rises_after done e ≡ true) × Follows (done ++ (e ∷ [])) es

    read_records : (es done : List Record) (k : ℕ) (rest : Bytes) → Follows done es → length done + length es ≤ m → read_on m w (middle (book c r p done [])) k (record_lines es ++ rest) ≡ read_on m w (middle (book c r p (done ++ es) [])) (k + length es) rest
    unfolding Follows
    read_records [] done k rest f n = let z : k ≡ k + 0 = omega arith in ap (λ x. read_on m w (middle (book c r p x [])) k rest) (sym (append-nil done)) ∙ ap (λ x. read_on m w (middle (book c r p (done ++ []) [])) x rest) z
    read_records (e ∷ es) done k rest f n =
        let n' : length done + suc (length es) ≤ m = n in
        let more_done : length (done ++ (e ∷ [])) ≡ suc (length done) = simp length-append (omega arith) in
        let on : suc k + length es ≡ k + suc (length es) = omega arith in
        ap (read_on m w (middle (book c r p done [])) k) (append_assoc (line 82 (record_fields e)) (record_lines es) rest) ∙ (step (middle (book c r p done [])) (middle (book c r p (done ++ (e ∷ [])) [])) k 82 (record_fields e) (record_lines es ++ rest) (lit≤ tt) (record_dark e) (read_record done k e f.0 f.1 (omega arith)) ∙ (read_records es (done ++ (e ∷ [])) (suc k) rest f.2 (omega arith) ∙ (ap (λ x. read_on m w (middle (book c r p x [])) (suc k + length es) rest) (append_assoc done (e ∷ []) es) ∙ ap (λ x. read_on m w (middle (book c r p (done ++ (e ∷ es)) [])) x rest) on)))

    follows_from : (es done : List Record) → ((i : ℕ) → i < length (done ++ es) → Entered c r p (done ++ es) i) → Follows done es
    unfolding Follows
    follows_from [] done h = tt
    follows_from (e ∷ es) done h =
        let seam = get_or-append_seam done e es no_record in
        let here : length done < length (done ++ (e ∷ es)) = simp length-append (omega arith) in
        let f : Entered c r p (done ++ (e ∷ es)) (length done) = h (length done) here in
        (subst (RecordFits c r p) seam f.0, above_last done e (λ k q. subst (λ x. Rising x e) (get_or-append done (e ∷ es) no_record k (omega arith)) (subst (Rising (get_or (done ++ (e ∷ es)) k no_record)) seam (f.1 k q))), follows_from es (done ++ (e ∷ [])) (subst (λ x. (i : ℕ) → i < length x → Entered c r p x i) (sym (append_assoc done (e ∷ []) es)) h))

  -- the B, R and C lines of a book are read to that book
  pub read_opened : (b : WrittenBook) (rest : Bytes) → SoundBook b → HasRoom m w b → read_on m w begin 1 (opening b ++ rest) ≡ read_on m w (middle b) (suc (line_count b)) rest
  read_opened b rest s room =
      let c = b.conditions in let r = b.remedies in let p = b.parts in
      let some : 1 ≤ c = s.sizes.some_condition in
      let few : length b.records ≤ m = room.for_records in
      let wide : length b.worths ≤ w = room.for_worths in
      let fits = s.few in
      let B = line 66 (size_fields b) in let R = record_lines b.records in let W = worth_lines 0 b.worths in
      let on : 2 + length b.records + length b.worths ≡ suc (1 + length b.records + length b.worths) = omega arith in
      ap (read_on m w begin 1) (append_assoc B (R ++ W) rest ∙ ap (λ x. B ++ x) (append_assoc R W rest)) ∙ (step begin (middle (book c r p [] [])) 1 66 (size_fields b) (R ++ (W ++ rest)) (lit≤ tt) (size_dark b) (read_first c r p 1 s.sizes) ∙ (read_records c r p some b.records [] 2 (W ++ rest) (follows_from c r p some b.records [] s.entries) (omega arith) ∙ (read_worths c r p some b.records b.worths [] (2 + length b.records) rest s.smalls (omega arith) (omega arith) ∙ ap (λ x. read_on m w (middle b) x rest) on)))

  -- and with the E line that is due, the whole file
  pub read_rendered : (b : WrittenBook) (rest : Bytes) → LawfulBook b → HasRoom m w b → read_on m w begin 1 (render b ++ rest) ≡ read_on m w (finished b) (suc (suc (line_count b))) rest
  read_rendered b rest h room =
      let s = sound_lawful b h in
      let n = s.1 in
      ap (read_on m w begin 1) (append_assoc (opening b) (line 69 []) rest) ∙ (read_opened b (line 69 [] ++ rest) s.0 room ∙ step (middle b) (finished b) (suc (line_count b)) 69 [] rest (lit≤ tt) (All-nil (All Dark)) (read_end b.conditions b.remedies b.parts s.0.sizes.some_condition b.records b.worths (suc (line_count b)) (omega arith)))

pub written_then_read : WrittenThenRead
written_then_read m w b h room = ap (read_on m w begin 1) (sym (append-nil (render b))) ∙ read_rendered m w b [] h room
