-- An order that is written is read as itself.
use Rattle.std.proofs.Common.{◌≡◌, ℕ, suc, ◌-◌, ◌<◌, ◌≤◌, Bool, true, false, cond, List, [], ◌∷◌, length, map, replicate, get_or, ℤ, pos, Some, sym, refl, ap, ◌∙◌, subst, arith}
use Rattle.std.specs.Prelude.{◌==◌, nat_le, unsigned_abs}
use Rattle.std.specs.List.{All}
use Rattle.std.proofs.lemmas.List.Elements.{All-nil, All-cons, All-weaker}
use Rattle.std.proofs.lemmas.List.{length-replicate}
use Rattle.std.proofs.lemmas.Bool.{eq-eqb, leb-true}
use Rattle.fields.specs.Numerals.{Bytes, numeral, signed}
use Rattle.fields.specs.Lines.{joined}
use Rattle.fields.specs.Kinds.Kind.{from_to}
use Rattle.fields.specs.Checking.{reported, and_then, check_field}
use Rattle.fields.specs.Checking.Checked.{good, faulty}
use Rattle.fields.proofs.Splitting.{Other, split_joined}
use Rattle.fields.proofs.Faultless.{Dark, numeral_dark, signed_dark, check_number, check_signed, Passes, passes}
use Rattle.fields.proofs.Faultless.Passes.{none, one}
use Rattle.quoting.specs.declared.question.By.{By}
use Rattle.quoting.specs.declared.question.By.TheVariants.{Mean, Floor}
use Rattle.quoting.specs.Asking.{letter_of, criterion_letters}
use Rattle.following.specs.declared.call.RoundCall.TheVariants.{Treat as to_treat, Report as to_report, Settle as to_settle}
use Rattle.script.specs.declared.word.Word.{Word}
use Rattle.script.specs.declared.word.Word.TheVariants.{Bar, Surcharge, Prolong, Lift, Plan, Judge, Begin, Treat, Report, Settle}
use Rattle.script.specs.Words.{text_of, word_in}
use Rattle.script.specs.Orders.{form, number, remedy, order_from}
use Rattle.script.specs.Orders.Order.{bars, surcharges, prolongs, lifts, plans, judges, begins, turns}
use Rattle.script.specs.Forms.{known, check_rest, check_order}
use Rattle.script.specs.Laws.{OrdersAreWritten}
use Rattle.script.proofs.Tabled.{by_its_letter, sizes}

word_back : (w : Word) → word_in (text_of w) ≡ Some w
unfolding word_in
word_back Bar = refl
word_back Surcharge = refl
word_back Prolong = refl
word_back Lift = refl
word_back Plan = refl
word_back Judge = refl
word_back Begin = refl
word_back Treat = refl
word_back Report = refl
word_back Settle = refl

abbrev all_dark : Bytes → Bool
all_dark [] = true
all_dark (x ∷ xs) = cond (nat_le 11 x) (all_dark xs) false

dark_from : (bs : Bytes) → all_dark bs ≡ true → All Dark bs
dark_from [] h = All-nil Dark
dark_from (x ∷ xs) h = from (nat_le 11 x) refl h (dark_from xs)
  where
    from : (b : Bool) → nat_le 11 x ≡ b → cond b (all_dark xs) false ≡ true → (all_dark xs ≡ true → All Dark xs) → All Dark (x ∷ xs)
    from true e h more = All-cons Dark x xs (leb-true 11 x e) (more h)
    from false e h more = absurd cc

word_dark : (w : Word) → All Dark (text_of w)
word_dark Bar = dark_from (text_of Bar) refl
word_dark Surcharge = dark_from (text_of Surcharge) refl
word_dark Prolong = dark_from (text_of Prolong) refl
word_dark Lift = dark_from (text_of Lift) refl
word_dark Plan = dark_from (text_of Plan) refl
word_dark Judge = dark_from (text_of Judge) refl
word_dark Begin = dark_from (text_of Begin) refl
word_dark Treat = dark_from (text_of Treat) refl
word_dark Report = dark_from (text_of Report) refl
word_dark Settle = dark_from (text_of Settle) refl

-- a word and the fields that it asks for, which pass with their values
written : (k : ℕ) (w : Word) (fs : List Bytes) (zs : List ℤ) → All (All Dark) fs → length fs ≡ length (form w (length fs)) → Passes k 2 (form w (length fs)) fs zs → check_order k (joined 9 (text_of w) fs) ≡ good (order_from w zs)
written k w fs zs dark many p =
    let no_tabs = All-weaker Dark (Other 9) (λ x g q. omega arith) in
    ap (λ s. and_then (known k (word_in s.0)) (λ v. cond (length s.1 == length (form v (length s.1))) (check_rest k v s.1) (faulty (reported 21 k 0)))) (split_joined 9 (text_of w) fs (no_tabs (text_of w) (word_dark w)) (All-weaker (All Dark) (All (Other 9)) no_tabs fs dark))
    ∙ ap (λ o. and_then (known k o) (λ v. cond (length fs == length (form v (length fs))) (check_rest k v fs) (faulty (reported 21 k 0)))) (word_back w)
    ∙ ap (λ b. cond b (check_rest k w fs) (faulty (reported 21 k 0))) (eq-eqb (length fs) (length (form w (length fs))) many)
    ∙ ap (λ x. and_then x (λ zs. good (order_from w zs))) (passes p)

letter_dark : (c : By) → All Dark (letter_of c ∷ [])
letter_dark Mean = dark_from (letter_of Mean ∷ []) refl
letter_dark Floor = dark_from (letter_of Floor ∷ []) refl

check_letter : (k i : ℕ) (c : By) → check_field k i criterion_letters (letter_of c ∷ []) ≡ good (pos (letter_of c))
check_letter k i Mean = refl
check_letter k i Floor = refl

numerals_dark : (rs : List ℕ) → All (All Dark) (map numeral rs)
numerals_dark [] = All-nil (All Dark)
numerals_dark (r ∷ rs) = All-cons (All Dark) (numeral r) (map numeral rs) (numeral_dark r) (numerals_dark rs)

remedies_pass : (k i : ℕ) (rs : List ℕ) → ((j : ℕ) → j < length rs → get_or rs j 0 ≤ 255) → Passes k i (replicate (length (map numeral rs)) remedy) (map numeral rs) (map pos rs)
remedies_pass k i [] h = none
remedies_pass k i (r ∷ rs) h = one (check_number k i 0 255 r (omega arith) (h 0 (omega arith))) (remedies_pass k (suc i) rs (λ j q. h (suc j) (omega arith)))

small : (k i n : ℕ) → n ≤ 4294967295 → check_field k i (from_to 0 4294967295) (numeral n) ≡ good (pos n)
small k i n h = check_number k i 0 4294967295 n (omega arith) h

pub orders_are_written : OrdersAreWritten
orders_are_written k (bars s r f l) h = written k Bar (numeral s ∷ numeral r ∷ numeral f ∷ numeral l ∷ []) (pos s ∷ pos r ∷ pos f ∷ pos l ∷ []) (numerals_dark (s ∷ r ∷ f ∷ l ∷ [])) refl (one (small k 2 s h.0) (one (small k 3 r h.1) (one (small k 4 f h.2) (one (small k 5 l h.3) none))))
orders_are_written k (surcharges r a f l) h = written k Surcharge (numeral r ∷ signed a ∷ numeral f ∷ numeral l ∷ []) (pos r ∷ a ∷ pos f ∷ pos l ∷ []) (All-cons (All Dark) (numeral r) (signed a ∷ numeral f ∷ numeral l ∷ []) (numeral_dark r) (All-cons (All Dark) (signed a) (numeral f ∷ numeral l ∷ []) (signed_dark a) (numerals_dark (f ∷ l ∷ [])))) refl (one (small k 2 r h.0) (one (check_signed k 3 4294967295 a h.1) (one (small k 4 f h.2) (one (small k 5 l h.3) none))))
orders_are_written k (prolongs p l) h = written k Prolong (numeral p ∷ numeral l ∷ []) (pos p ∷ pos l ∷ []) (numerals_dark (p ∷ l ∷ [])) refl (one (small k 2 p h.0) (one (small k 3 l h.1) none))
orders_are_written k (lifts p) h = written k Lift (numeral p ∷ []) (pos p ∷ []) (numerals_dark (p ∷ [])) refl (one (small k 2 p h) none)
orders_are_written k (plans c n) h = written k Plan ((letter_of c ∷ []) ∷ numeral n ∷ []) (pos (letter_of c) ∷ pos n ∷ []) (All-cons (All Dark) (letter_of c ∷ []) (numeral n ∷ []) (letter_dark c) (numerals_dark (n ∷ []))) refl (one (check_letter k 2 c) (one (small k 3 n h) none)) ∙ ap (λ x. good (plans x n)) (by_its_letter c)
orders_are_written k (judges c n rs) h =
    let fs = (letter_of c ∷ []) ∷ numeral n ∷ map numeral rs in
    let more : length fs - 2 ≡ length (map numeral rs) = omega arith in
    let many : length fs ≡ length (form Judge (length fs)) = omega (arith, length-replicate (length fs - 2) remedy) in
    let each = one (check_letter k 2 c) (one (small k 3 n h.0) (remedies_pass k 4 rs h.1)) in
    written k Judge fs (pos (letter_of c) ∷ pos n ∷ map pos rs) (All-cons (All Dark) (letter_of c ∷ []) (numeral n ∷ map numeral rs) (letter_dark c) (numerals_dark (n ∷ rs))) many (subst (λ m. Passes k 2 (criterion_letters ∷ number ∷ replicate m remedy) fs (pos (letter_of c) ∷ pos n ∷ map pos rs)) (sym more) each)
    ∙ ap (λ x. good (judges x n (map unsigned_abs (map pos rs)))) (by_its_letter c)
    ∙ ap (λ ys. good (judges c n ys)) (sizes rs)
orders_are_written k (begins n s) h = written k Begin (numeral n ∷ numeral s ∷ []) (pos n ∷ pos s ∷ []) (numerals_dark (n ∷ s ∷ [])) refl (one (small k 2 n h.0) (one (small k 3 s h.1) none))
orders_are_written k (turns to_treat) h = written k Treat [] [] (All-nil (All Dark)) refl none
orders_are_written k (turns (to_report n)) h = written k Report (numeral n ∷ []) (pos n ∷ []) (numerals_dark (n ∷ [])) refl (one (small k 2 n h) none)
orders_are_written k (turns to_settle) h = written k Settle [] [] (All-nil (All Dark)) refl none
