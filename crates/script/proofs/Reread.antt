-- A line that is read is the order as it is written.
use Rattle.std.proofs.Common.{◌≡◌, ℕ, zero, suc, ◌-◌, ◌<◌, ◌≤◌, Bool, true, false, cond, List, [], ◌∷◌, length, map, replicate, get_or, ℤ, nat_abs, Option, Some, None, sym, refl, ap, ◌∙◌, subst, inl, inr, arith}
use Rattle.std.specs.Prelude.{◌==◌, unsigned_abs}
use Rattle.std.specs.List.{find}
use Rattle.std.specs.Str.{bytes_eq}
use Rattle.std.proofs.lemmas.Bool.{eqb-true}
use Rattle.std.proofs.lemmas.Slice.Eq.{bytes_eq-Decides}
use Rattle.fields.specs.Numerals.{Bytes, numeral}
use Rattle.fields.specs.Lines.{split, joined}
use Rattle.fields.specs.Kinds.{Kind, LetterOf}
use Rattle.fields.specs.Checking.{reported, and_then, check_field, check_fields}
use Rattle.fields.specs.Checking.Checked.{good, faulty}
use Rattle.fields.proofs.Splitting.{joined_split}
use Rattle.fields.proofs.Faultless.{good_same, then_good, cond_good, field_sound, field_within, fields_say}
use Rattle.fields.proofs.Faulted.{field_fine}
use Rattle.quoting.specs.Asking.{letter_of, criterion_letters}
use Rattle.script.specs.declared.word.Word.{Word}
use Rattle.script.specs.declared.word.Word.TheVariants.{Bar, Surcharge, Prolong, Lift, Plan, Judge, Begin, Treat, Report, Settle}
use Rattle.script.specs.declared.word.TheConstants.{WORDS}
use Rattle.script.specs.Words.{text_of, word_in}
use Rattle.script.specs.Orders.{Order, form, number, remedy, by_letter, order_from}
use Rattle.script.specs.Forms.{known, check_rest, check_order}
use Rattle.script.specs.Laws.{order_text, FitsOrder, OrdersAreExact}
use Rattle.script.proofs.Written.{orders_are_written}

found : {X : Type 0} (p : X → Bool) (xs : List X) (x : X) → find p xs ≡ Some x → p x ≡ true
found p [] x h = absurd cc
found {X} p (y ∷ ys) x h = from (p y) refl h (found p ys x)
  where
    from : (b : Bool) → p y ≡ b → cond b (Some y) (find p ys) ≡ Some x → (find p ys ≡ Some x → p x ≡ true) → p x ≡ true
    from true e h more = let q : ◌≡◌ {A = X} y x = cc in subst (λ z. p z ≡ true) q e
    from false e h more = more h

word_text : (bs : Bytes) (w : Word) → word_in bs ≡ Some w → text_of w ≡ bs
unfolding word_in
word_text bs w h = (bytes_eq-Decides (text_of w) bs).0 (found (λ w. bytes_eq (text_of w) bs) WORDS w h)

-- a known word
word_known : (k : ℕ) (o : Option Word) (w : Word) → known k o ≡ good w → o ≡ Some w
word_known k None w h = absurd cc
word_known k (Some v) w h = ap Some (good_same v w h)

-- a line after its word: the fields as they are spelled, and the order
abbrev pub Spelled : Word → List Bytes → Order → Type 0
Spelled w fs o = (joined 9 (text_of w) fs ≡ order_text o) × FitsOrder o

letter_back : (l : ℕ) → LetterOf (77 ∷ 70 ∷ []) l → letter_of (by_letter l) ≡ l
letter_back l (inl e) = subst (λ x. letter_of (by_letter x) ≡ x) (sym e) refl
letter_back l (inr (inl e)) = subst (λ x. letter_of (by_letter x) ≡ x) (sym e) refl
letter_back l (inr (inr e)) = absurd e

-- the letter of a criterion
letter_field : (k i : ℕ) (f : Bytes) (z : ℤ) → check_field k i criterion_letters f ≡ good z → f ≡ letter_of (by_letter (nat_abs z)) ∷ []
letter_field k i f z h =
    let u = field_fine criterion_letters k i f z h in
    let s = field_sound criterion_letters k i f z h in
    let e : ◌≡◌ {A = List ℕ} (u.0 ∷ []) (nat_abs z ∷ []) = sym u.1 ∙ s in
    let q : ◌≡◌ {A = ℕ} u.0 (nat_abs z) = cc in
    s ∙ ap (λ x. x ∷ []) (sym (letter_back (nat_abs z) (subst (LetterOf (77 ∷ 70 ∷ [])) q u.2)))

-- the first of some fields, and those after it
first_good : (t : Kind) (ts : List Kind) (k i : ℕ) (f : Bytes) (fs : List Bytes) (zs : List ℤ) → check_fields k i (t ∷ ts) (f ∷ fs) ≡ good zs → (z : ℤ) × (ys : List ℤ) × (check_field k i t f ≡ good z) × (check_fields k (suc i) ts fs ≡ good ys) × (z ∷ ys ≡ zs)
first_good t ts k i f fs zs h =
    let a = then_good (check_field k i t f) (λ z. and_then (check_fields k (suc i) ts fs) (λ zs. good (z ∷ zs))) zs h in
    let b = then_good (check_fields k (suc i) ts fs) (λ zs. good (a.0 ∷ zs)) zs a.2 in
    (a.0, b.0, a.1, b.1, good_same (a.0 ∷ b.0) zs b.2)

-- the remedies of a table
remedies_said : (k i n : ℕ) (fs : List Bytes) (zs : List ℤ) → check_fields k i (replicate n remedy) fs ≡ good zs → (fs ≡ map numeral (map unsigned_abs zs)) × ((j : ℕ) → j < length (map unsigned_abs zs) → get_or (map unsigned_abs zs) j 0 ≤ 255)
remedies_said k i zero [] zs h = subst (λ ys. ([] ≡ map numeral (map unsigned_abs ys)) × ((j : ℕ) → j < length (map unsigned_abs ys) → get_or (map unsigned_abs ys) j 0 ≤ 255)) (good_same [] zs h) (refl, λ j q. absurd (omega arith))
remedies_said k i zero (f ∷ fs) zs h = absurd cc
remedies_said k i (suc n) [] zs h = absurd cc
remedies_said k i (suc n) (f ∷ fs) zs h =
    let r = first_good remedy (replicate n remedy) k i f fs zs h in
    let here = field_sound remedy k i f r.0 r.2 in
    let few = field_within remedy k i f r.0 r.2 in
    let more = remedies_said k (suc i) n fs r.1 r.3 in
    subst (λ ys. (f ∷ fs ≡ map numeral (map unsigned_abs ys)) × ((j : ℕ) → j < length (map unsigned_abs ys) → get_or (map unsigned_abs ys) j 0 ≤ 255)) r.4
    (ap (λ x. x ∷ fs) here ∙ ap (λ xs. numeral (nat_abs r.0) ∷ xs) more.0, elim [ zero ↦ λ q. few.1 | suc j ↦ λ q. more.1 j (omega arith) ])

-- after each word
judged : (k : ℕ) (fs : List Bytes) (zs : List ℤ) → length fs ≡ length (form Judge (length fs)) → check_fields k 2 (form Judge (length fs)) fs ≡ good zs → Spelled Judge fs (order_from Judge zs)
judged k [] zs n h = absurd (omega arith)
judged k (f ∷ []) zs n h = absurd (omega arith)
judged k (f ∷ f' ∷ gs) zs n h =
    let m = length (f ∷ f' ∷ gs) - 2 in
    let r = first_good criterion_letters (number ∷ replicate m remedy) k 2 f (f' ∷ gs) zs h in
    let r' = first_good number (replicate m remedy) k 3 f' gs r.1 r.3 in
    let e : r.0 ∷ r'.0 ∷ r'.1 ≡ zs = ap (λ ys. r.0 ∷ ys) r'.4 ∙ r.4 in
    let by = letter_field k 2 f r.0 r.2 in
    let visits = field_sound number k 3 f' r'.0 r'.2 in
    let few = field_within number k 3 f' r'.0 r'.2 in
    let table = remedies_said k 4 m gs r'.1 r'.3 in
    subst (λ ys. Spelled Judge (f ∷ f' ∷ gs) (order_from Judge ys)) e (
      ap (λ x. joined 9 (text_of Judge) (x ∷ f' ∷ gs)) by
          ∙ ap (λ x. joined 9 (text_of Judge) ((letter_of (by_letter (nat_abs r.0)) ∷ []) ∷ x ∷ gs)) visits
          ∙ ap (λ xs. joined 9 (text_of Judge) ((letter_of (by_letter (nat_abs r.0)) ∷ []) ∷ numeral (nat_abs r'.0) ∷ xs)) table.0,
      (few.1, table.1),
    )

planned : (k : ℕ) (fs : List Bytes) (zs : List ℤ) → check_fields k 2 (criterion_letters ∷ number ∷ []) fs ≡ good zs → Spelled Plan fs (order_from Plan zs)
planned k [] zs h = absurd cc
planned k (f ∷ fs) zs h =
    let r = first_good criterion_letters (number ∷ []) k 2 f fs zs h in
    let by = letter_field k 2 f r.0 r.2 in
    let s = fields_say (number ∷ []) fs k 3 [] r.1 r.3 in
    subst (λ ys. Spelled Plan (f ∷ fs) (order_from Plan ys)) r.4
    (ap (λ x. joined 9 (text_of Plan) (x ∷ fs)) by ∙ ap (λ xs. joined 9 (text_of Plan) ((letter_of (by_letter (nat_abs r.0)) ∷ []) ∷ xs)) s.0, s.1.0.1)

said_after : (k : ℕ) (w : Word) (fs : List Bytes) (zs : List ℤ) → length fs ≡ length (form w (length fs)) → check_fields k 2 (form w (length fs)) fs ≡ good zs → Spelled w fs (order_from w zs)
said_after k Bar fs zs n h = let s = fields_say (form Bar (length fs)) fs k 2 [] zs h in (ap (joined 9 (text_of Bar)) s.0, (s.1.0.1, s.1.1.0.1, s.1.1.1.0.1, s.1.1.1.1.0.1))
said_after k Surcharge fs zs n h = let s = fields_say (form Surcharge (length fs)) fs k 2 [] zs h in (ap (joined 9 (text_of Surcharge)) s.0, (s.1.0.1, s.1.1.0, s.1.1.1.0.1, s.1.1.1.1.0.1))
said_after k Prolong fs zs n h = let s = fields_say (form Prolong (length fs)) fs k 2 [] zs h in (ap (joined 9 (text_of Prolong)) s.0, (s.1.0.1, s.1.1.0.1))
said_after k Lift fs zs n h = let s = fields_say (form Lift (length fs)) fs k 2 [] zs h in (ap (joined 9 (text_of Lift)) s.0, s.1.0.1)
said_after k Plan fs zs n h = planned k fs zs h
said_after k Judge fs zs n h = judged k fs zs n h
said_after k Begin fs zs n h = let s = fields_say (form Begin (length fs)) fs k 2 [] zs h in (ap (joined 9 (text_of Begin)) s.0, (s.1.0.1, s.1.1.0.1))
said_after k Treat fs zs n h = let s = fields_say [] fs k 2 [] zs h in (ap (joined 9 (text_of Treat)) s.0, tt)
said_after k Report fs zs n h = let s = fields_say (form Report (length fs)) fs k 2 [] zs h in (ap (joined 9 (text_of Report)) s.0, s.1.0.1)
said_after k Settle fs zs n h = let s = fields_say [] fs k 2 [] zs h in (ap (joined 9 (text_of Settle)) s.0, tt)

read_then_written : (k : ℕ) (t : Bytes) (o : Order) → check_order k t ≡ good o → (t ≡ order_text o) × FitsOrder o
read_then_written k t o h =
    let g = (split 9 t).0 in let fs = (split 9 t).1 in
    let a = then_good (known k (word_in g)) (λ w. cond (length fs == length (form w (length fs))) (check_rest k w fs) (faulty (reported 21 k 0))) o h in
    let w = a.0 in
    let text = word_text g w (word_known k (word_in g) w a.1) in
    let b = cond_good (length fs == length (form w (length fs))) (check_rest k w fs) (reported 21 k 0) o a.2 in
    let d = then_good (check_fields k 2 (form w (length fs)) fs) (λ zs. good (order_from w zs)) o b.1 in
    let s = said_after k w fs d.0 (eqb-true (length fs) (length (form w (length fs))) b.0) d.1 in
    subst (λ o. (t ≡ order_text o) × FitsOrder o) (good_same (order_from w d.0) o d.2) (sym (joined_split 9 t) ∙ ap (λ x. joined 9 x fs) (sym text) ∙ s.0, s.1)

pub orders_are_exact_lem : OrdersAreExact
orders_are_exact_lem k t o = (read_then_written k t o, λ p. ap (check_order k) p.0 ∙ orders_are_written k o p.1)
