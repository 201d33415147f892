-- What an input asks, or its first fault, is computed exactly.
use Rattle.std.proofs.Common.{◌≡◌, ℕ, ◌<◌, ◌≤◌, ltb, ◌⊎◌, List, [], ◌∷◌, ◌++◌, length, get_or, ℤ, pos, sym, refl, ap, ◌∙◌, subst, inl, inr, ⊎_elim, append_assoc, arith, lit≤}
use Rattle.std.specs.List.{All}
use Rattle.std.proofs.lemmas.List.Elements.{All-from_recursion, All-cons, All-nil, All-weaker, All-from_get_or}
use Rattle.std.proofs.lemmas.Bool.{lt-ltb, le-ltb, cond-true, cond-false, cases_lt}
use Rattle.fields.specs.Numerals.{Bytes, numeral}
use Rattle.fields.specs.Lines.{joined, split}
use Rattle.fields.specs.Kinds.{LetterOf, Misread}
use Rattle.fields.specs.Checking.{Reported, reported, Checked, and_then, size_at, check_field, check_line}
use Rattle.fields.specs.Checking.Checked.{good, faulty}
use Rattle.fields.proofs.Splitting.{Other, split_line, split_none, split_clear, joined_split, joined_all}
use Rattle.fields.proofs.Faultless.{Dark, numeral_dark, check_number, line_good, line_sound, letter_one, good_same, then_good}
use Rattle.fields.proofs.Faultless.Passes.{none, one}
use Rattle.fields.proofs.Faulted.{fault_same, not_both, then_fail, line_faults_are_exact_lem}
use Rattle.fields.proofs.Passing.{line_fine, misread_line}
use Rattle.fields.specs.Kinds.Misread.{unended}
use Rattle.bookfile.specs.File.{render}
use Rattle.bookfile.specs.FileFaults.{Reads}
use Rattle.bookfile.specs.Reading.{reading}
use Rattle.bookfile.proofs.Exactness.{reading_is_exact_lem}
use Rattle.quoting.specs.declared.question.Asked.{Asked}
use Rattle.quoting.specs.declared.question.By.{By}
use Rattle.quoting.specs.declared.question.By.TheVariants.{Mean, Floor}
use Rattle.quoting.specs.Asking.{letter_of, criterion_letters, question_letters, after_letter}
use Rattle.quoting.specs.Inputs.{Request, question_line, Questioned, QuestionFaulty, FileFaulty, AskFaulty, Asks, named_by, request_of, ask_lines, ask, AskingIsExact}
use Rattle.quoting.specs.Inputs.AskFaulty.{too_long, in_question, in_file}

-- the values after Q, and its text
abbrev pub values_of : ℕ → By → List ℤ
values_of n c = pos n ∷ pos (letter_of c) ∷ []

abbrev pub question_text : ℕ → By → Bytes
question_text n c = joined 9 (81 ∷ []) (numeral n ∷ (letter_of c ∷ []) ∷ [])

letter_dark : (c : By) → Dark (letter_of c)
letter_dark Mean = lit≤ tt
letter_dark Floor = lit≤ tt

fields_dark : (n : ℕ) (c : By) → All (All Dark) (numeral n ∷ (letter_of c ∷ []) ∷ [])
fields_dark n c = All-from_recursion (All Dark) (numeral n ∷ (letter_of c ∷ []) ∷ []) (numeral_dark n, (All-cons Dark (letter_of c) [] (letter_dark c) (All-nil Dark), tt))

text_clear : (n : ℕ) (c : By) → All (Other 10) (question_text n c)
text_clear n c = joined_all (Other 10) 9 (81 ∷ []) (numeral n ∷ (letter_of c ∷ []) ∷ []) (λ q. omega arith) (All-cons (Other 10) 81 [] (λ q. omega arith) (All-nil (Other 10))) (All-weaker (All Dark) (All (Other 10)) (All-weaker Dark (Other 10) (λ x g q. omega arith)) (numeral n ∷ (letter_of c ∷ []) ∷ []) (fields_dark n c))

check_letter : (k i : ℕ) (c : By) → check_field k i criterion_letters (letter_of c ∷ []) ≡ good (pos (letter_of c))
check_letter k i Mean = refl
check_letter k i Floor = refl

pub named_back : (c : By) → named_by (letter_of c) ≡ c
named_back Mean = refl
named_back Floor = refl

letter_back : (l : ℕ) → LetterOf (77 ∷ 70 ∷ []) l → letter_of (named_by l) ≡ l
letter_back l (inl e) = subst (λ x. letter_of (named_by x) ≡ x) (sym e) refl
letter_back l (inr (inl e)) = subst (λ x. letter_of (named_by x) ≡ x) (sym e) refl
letter_back l (inr (inr e)) = absurd e

-- a Q line in order is checked to its values, and a line that passes is a Q line in order
question_good : (n : ℕ) (c : By) → 1 ≤ n → n ≤ 48 → check_line 0 question_letters after_letter (question_text n c) ≡ good (81, values_of n c)
question_good n c a b = line_good 0 81 question_letters after_letter (numeral n ∷ (letter_of c ∷ []) ∷ []) (values_of n c) (lit≤ tt) (fields_dark n c) refl refl (one (check_number 0 2 1 48 n a b) (one (check_letter 0 3 c) none))

pub record QuestionSound (l : Bytes) (zs : List ℤ) : Type 0 where
  pub some : 1 ≤ size_at zs 0
  pub few : size_at zs 0 ≤ 48
  pub text : l ≡ question_text (size_at zs 0) (named_by (size_at zs 1))

question_sound : (l : Bytes) (p : ℕ × List ℤ) → All (Other 10) l → check_line 0 question_letters after_letter l ≡ good p → QuestionSound l p.1
question_sound l p a h =
    let r = line_sound 0 question_letters after_letter l p h in
    let g = line_fine 0 question_letters after_letter l [] p a h in
    let x : p.0 ≡ 81 = ⊎_elim (λ e. e) (λ z. absurd z) (letter_one question_letters p.0 r.letter) in
    let zs = p.1 in
    let field = g.all_good.1 1 (omega (arith, g.all_good.0)) in
    let e : ◌≡◌ {A = List ℕ} (size_at zs 1 ∷ []) (field.0 ∷ []) = ap (λ fs. get_or fs 1 []) (sym g.spell) ∙ field.1 in
    let letter : LetterOf (77 ∷ 70 ∷ []) (size_at zs 1) = subst (LetterOf (77 ∷ 70 ∷ [])) (let d : ◌≡◌ {A = ℕ} field.0 (size_at zs 1) = cc in d) field.2 in
    record {
      some = r.bounded.0.0;
      few = r.bounded.0.1;
      text = r.whole ∙ (ap (λ y. joined 9 (y ∷ []) (numeral (size_at zs 0) ∷ (size_at zs 1 ∷ []) ∷ [])) x ∙ ap (λ y. joined 9 (81 ∷ []) (numeral (size_at zs 0) ∷ (y ∷ []) ∷ [])) (sym (letter_back (size_at zs 1) letter)));
    }

-- some bytes begin with a line, and others are left after it
abbrev pub Cut : Bytes → Bytes → Bytes → Type 0
Cut bs l rest = All (Other 10) l × (bs ≡ l ++ (10 ∷ rest))

-- what is asked by a line and the bytes after it
abbrev pub asked_by : Bytes → Bytes → Checked Request
asked_by l rest = and_then (check_line 0 question_letters after_letter l) (λ p. and_then (reading 2048 32 rest) (λ b. good (request_of p.1 b)))

-- bytes within the limit are asked line by line
short : (bs : Bytes) → length bs ≤ 32768 → ask bs ≡ ask_lines (split 10 bs).0 (split 10 bs).1
short bs h = cond-false (ltb 32768 (length bs)) _ _ (le-ltb 32768 (length bs) h)

ask_cut : (bs l rest : Bytes) → length bs ≤ 32768 → Cut bs l rest → ask bs ≡ asked_by l rest
ask_cut bs l rest h (a, e) = short bs h ∙ ap (λ p. ask_lines p.0 p.1) (ap (split 10) e ∙ split_line 10 l rest a)

ask_uncut : (bs : Bytes) → length bs ≤ 32768 → All (Other 10) bs → ask bs ≡ faulty (reported 26 0 0)
ask_uncut bs h a = short bs h ∙ ap (λ p. ask_lines p.0 p.1) (split_none 10 bs a)

-- bytes begin with an ended line, or have no newline
parted : (bs : Bytes) → All (Other 10) bs ⊎ ((l : Bytes) × (rest : Bytes) × Cut bs l rest)
parted bs = from (split 10 bs).0 (split 10 bs).1 (split_clear 10 bs).0 (joined_split 10 bs)
  where
    from : (l : Bytes) (ls : List Bytes) → All (Other 10) l → joined 10 l ls ≡ bs → All (Other 10) bs ⊎ ((l : Bytes) × (rest : Bytes) × Cut bs l rest)
    from l [] a e = inl (subst (All (Other 10)) e a)
    from l (l' ∷ ls) a e = inr (l, joined 10 l' ls, (a, sym e))

-- a Q line in order before some bytes
pub asked_after : (bs : Bytes) (q : Asked) (rest : Bytes) → length bs ≤ 32768 → Questioned bs q rest → ask bs ≡ and_then (reading 2048 32 rest) (λ b. good (record { visits = q.visits; by = q.by; book = b }))
asked_after bs q rest h d =
    ask_cut bs (question_text q.visits q.by) rest h (text_clear q.visits q.by, d.whole ∙ append_assoc (question_text q.visits q.by) (10 ∷ []) rest)
    ∙ (ap (λ x. and_then x (λ p. and_then (reading 2048 32 rest) (λ b. good (request_of p.1 b)))) (question_good q.visits q.by d.some_visit d.few_visits)
    ∙ ap (λ y. and_then (reading 2048 32 rest) (λ b. good (record { visits = q.visits; by = y; book = b }))) (named_back q.by))

asked_good : (bs : Bytes) (a : Request) → Asks bs (good a) → good a ≡ ask bs
asked_good bs a (h, e, w) =
    sym (asked_after bs (record { visits = a.visits; by = a.by }) (render a.book) h (record { some_visit = w.some_visit; few_visits = w.few_visits; whole = e })
    ∙ ap (λ x. and_then x (λ b. good (record { visits = a.visits; by = a.by; book = b }))) (sym ((reading_is_exact_lem 2048 32 (render a.book) (good a.book)).0 (refl, w.lawful, w.room))))

question_at_fault : (bs : Bytes) (f : Reported) → length bs ≤ 32768 → QuestionFaulty bs f → faulty f ≡ ask bs
question_at_fault bs f h q =
    ap faulty q.fault ∙ ⊎_elim
    (λ a. ap (λ x. faulty (reported x 0 q.field)) a.1 ∙ (ap (λ x. faulty (reported 26 0 x)) a.2 ∙ sym (ask_uncut bs h (All-from_get_or (Other 10) bs 0 a.0))))
    (λ a. let l = a.0 in let rest = a.1 in
    let line = (line_faults_are_exact_lem 0 question_letters after_letter l rest (reported q.number 0 q.field) (λ j w. a.2 j 0 w)).1 (q.number, q.field, refl, subst (λ x. Misread question_letters after_letter x q.number q.field) a.3 q.misread) in
    sym (ask_cut bs l rest h (a.2, a.3) ∙ ap (λ x. and_then x (λ p. and_then (reading 2048 32 rest) (λ b. good (request_of p.1 b)))) line))
    (misread_line question_letters after_letter bs q.number q.field q.misread)

file_at_fault : (bs : Bytes) (f : Reported) → length bs ≤ 32768 → FileFaulty bs f → faulty f ≡ ask bs
file_at_fault bs f h q =
    sym (asked_after bs q.question q.rest h q.questioned
    ∙ ap (λ x. and_then x (λ b. good (record { visits = q.question.visits; by = q.question.by; book = b }))) (sym ((reading_is_exact_lem 2048 32 q.rest (faulty f)).0 q.fault)))

at_fault : (bs : Bytes) (f : Reported) → AskFaulty bs f → faulty f ≡ ask bs
at_fault bs _ (too_long h) = sym (cond-true (ltb 32768 (length bs)) _ _ (lt-ltb 32768 (length bs) h))
at_fault bs _ (in_question f h q) = question_at_fault bs f h q
at_fault bs _ (in_file f h q) = file_at_fault bs f h q

-- a Q line that passes, one that does not, and none
pub question_passed : (bs l rest : Bytes) (p : ℕ × List ℤ) → Cut bs l rest → check_line 0 question_letters after_letter l ≡ good p → Questioned bs (record { visits = size_at p.1 0; by = named_by (size_at p.1 1) }) rest
question_passed bs l rest p (d, e) g =
    let q = question_sound l p d g in
    let n = size_at p.1 0 in let c = named_by (size_at p.1 1) in
    record { some_visit = q.some; few_visits = q.few; whole = e ∙ (ap (λ x. x ++ (10 ∷ rest)) q.text ∙ sym (append_assoc (question_text n c) (10 ∷ []) rest)) }

pub question_stopped : (bs l rest : Bytes) (f : Reported) → Cut bs l rest → check_line 0 question_letters after_letter l ≡ faulty f → QuestionFaulty bs f
question_stopped bs l rest f (d, e) g =
    let m = (line_faults_are_exact_lem 0 question_letters after_letter l rest f (λ j w. d j 0 w)).0 g in
    record { number = m.0; field = m.1; misread = subst (λ x. Misread question_letters after_letter x m.0 m.1) (sym e) m.3; fault = m.2 }

pub question_missing : (bs : Bytes) → All (Other 10) bs → QuestionFaulty bs (reported 26 0 0)
question_missing bs d = record { number = 26; field = 0; misread = unended (λ j w. d j 0 w); fault = refl }

good_asked : (bs l rest : Bytes) (a : Request) → length bs ≤ 32768 → Cut bs l rest → asked_by l rest ≡ good a → Asks bs (good a)
good_asked bs l rest a h cut g =
    let p = then_good (check_line 0 question_letters after_letter l) (λ p. and_then (reading 2048 32 rest) (λ b. good (request_of p.1 b))) a g in
    let b = then_good (reading 2048 32 rest) (λ b. good (request_of p.0.1 b)) a p.2 in
    let q = question_passed bs l rest p.0 cut p.1 in
    let r : Reads 2048 32 rest (good b.0) = (reading_is_exact_lem 2048 32 rest (good b.0)).1 (sym b.1) in
    let zs = p.0.1 in
    subst (λ x. Asks bs (good x)) (good_same (request_of zs b.0) a b.2)
    (h, q.whole ∙ ap (λ x. question_line (size_at zs 0) (named_by (size_at zs 1)) ++ x) r.0, record { some_visit = q.some_visit; few_visits = q.few_visits; lawful = r.1; room = r.2 })

fault_asked : (bs l rest : Bytes) (f : Reported) → length bs ≤ 32768 → Cut bs l rest → asked_by l rest ≡ faulty f → AskFaulty bs f
fault_asked bs l rest f h cut g = ⊎_elim
    (λ c. in_question f h (question_stopped bs l rest f cut c))
    (λ p. ⊎_elim
    (λ b. in_file f h (record { question = _; rest = rest; questioned = question_passed bs l rest p.0 cut p.1; fault = (reading_is_exact_lem 2048 32 rest (faulty f)).1 (sym b) }))
    (λ b. absurd (not_both (request_of p.0.1 b.0) f b.2))
    (then_fail (reading 2048 32 rest) (λ b. good (request_of p.0.1 b)) f p.2))
    (then_fail (check_line 0 question_letters after_letter l) (λ p. and_then (reading 2048 32 rest) (λ b. good (request_of p.1 b))) f g)

-- what is computed of some bytes is what they ask, or their first fault
computed : (bs : Bytes) (a : Checked Request) → ask bs ≡ a → Asks bs a
computed bs a g = ⊎_elim (λ h. long a (sym (cond-true (ltb 32768 (length bs)) _ _ (lt-ltb 32768 (length bs) h)) ∙ g) h) (λ h. within a g (omega arith) (parted bs)) (cases_lt 32768 (length bs))
  where
    long : (a : Checked Request) → faulty (reported 25 0 0) ≡ a → 32768 < length bs → Asks bs a
    long (good a) e h = absurd (not_both a (reported 25 0 0) (sym e))
    long (faulty f) e h = subst (AskFaulty bs) (fault_same {A = Request} (reported 25 0 0) f e) (too_long h)

    within : (a : Checked Request) → ask bs ≡ a → length bs ≤ 32768 → All (Other 10) bs ⊎ ((l : Bytes) × (rest : Bytes) × Cut bs l rest) → Asks bs a
    within (good a) e h (inl d) = absurd (not_both a (reported 26 0 0) (sym e ∙ ask_uncut bs h d))
    within (faulty f) e h (inl d) = subst (AskFaulty bs) (fault_same {A = Request} (reported 26 0 0) f (sym (ask_uncut bs h d) ∙ e)) (in_question (reported 26 0 0) h (question_missing bs d))
    within (good a) e h (inr (l, rest, cut)) = good_asked bs l rest a h cut (sym (ask_cut bs l rest h cut) ∙ e)
    within (faulty f) e h (inr (l, rest, cut)) = fault_asked bs l rest f h cut (sym (ask_cut bs l rest h cut) ∙ e)

pub asking_is_exact_lem : AskingIsExact
asking_is_exact_lem bs (good a) = (asked_good bs a, λ e. computed bs (good a) (sym e))
asking_is_exact_lem bs (faulty f) = (at_fault bs f, λ e. computed bs (faulty f) (sym e))
