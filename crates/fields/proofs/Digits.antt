-- A numeral and its value determine each other.
use Rattle.std.proofs.Common.{◌≡◌, ℕ, zero, suc, ◌+◌, ◌-◌, ◌*◌, ◌/◌, ◌%◌, ◌<◌, ◌≤◌, true, cond, eqb, ltb, [], ◌∷◌, ◌++◌, length, get_or, ℤ, pos, negsuc, neg_ℤ, sym, refl, ap, ◌∙◌, subst, ⊎_elim, append_assoc, append-nil, arith}
use Rattle.std.specs.List.{All}
use Rattle.std.proofs.lemmas.List.Elements.{All-nil, All-cons, All-head, All-tail, All-get_or, All-from_get_or}
use Rattle.std.proofs.lemmas.Bool.{ltb-true, ltb-false, eqb-true, ne_eqb, eq-eqb, and_parts, and_from, cond_both, cond-true, cond-false, le-ltb, lt-ltb, cases_eq}
use Rattle.fields.specs.Numerals.{Bytes, digits_onto, numeral, signed, value_after, value, signed_value, BaseTen, NumeralsAreBaseTen}
use Rattle.fields.specs.Lines.{same}

onto_all : (P : ℕ → Type 0) → ((d : ℕ) → d < 10 → P (48 + d)) → (k n : ℕ) (bs : Bytes) → n < k → All P bs → All P (digits_onto k n bs)
onto_all P p zero n bs h a = a
onto_all P p (suc k) n bs h a = cond_both (ltb n 10) _ _ (All P) (λ e. All-cons P (48 + n) bs (p n (ltb-true n 10 e)) a) (λ e. onto_all P p k (n / 10) ((48 + n % 10) ∷ bs) (omega (arith, ltb-false n 10 e)) (All-cons P (48 + n % 10) bs (p (n % 10) (omega arith)) a))

pub numeral_all : (P : ℕ → Type 0) → ((d : ℕ) → d < 10 → P (48 + d)) → (n : ℕ) → All P (numeral n)
numeral_all P p n = onto_all P p (suc n) n [] (omega arith) (All-nil P)

onto_value : (k n : ℕ) (bs : Bytes) → n < k → value_after 0 (digits_onto k n bs) ≡ value_after n bs
onto_value zero n bs h = absurd (omega arith)
onto_value (suc k) n bs h = cond_both (ltb n 10) _ _ (λ x. value_after 0 x ≡ value_after n bs) (λ e. ap (λ z. value_after z bs) (omega arith)) (λ e. onto_value k (n / 10) ((48 + n % 10) ∷ bs) (omega (arith, ltb-false n 10 e)) ∙ ap (λ z. value_after z bs) (omega arith))

pub value_numeral : (n : ℕ) → value (numeral n) ≡ n
value_numeral n = onto_value (suc n) n [] (omega arith)

pub numeral_value : (f : Bytes) (n : ℕ) → f ≡ numeral n → value f ≡ n
numeral_value f n e = ap value e ∙ value_numeral n

signed_plain : (bs : Bytes) → All (λ x. 48 ≤ x) bs → signed_value bs ≡ pos (value bs)
signed_plain [] a = refl
signed_plain (x ∷ xs) a = let h : 48 ≤ x = All-head (λ y. 48 ≤ y) x xs a in cond-false (eqb x 45) _ _ (ne_eqb x 45 (λ e. omega arith))

pub value_signed : (z : ℤ) → signed_value (signed z) ≡ z
value_signed (pos n) = signed_plain (numeral n) (numeral_all (λ x. 48 ≤ x) (λ d h. omega arith) n) ∙ ap pos (value_numeral n)
value_signed (negsuc n) = ap (λ v. neg_ℤ (pos v)) (value_numeral (suc n))

pub signed_is : (f : Bytes) (z : ℤ) → f ≡ signed z → signed_value f ≡ z
signed_is f z e = ap signed_value e ∙ value_signed z

pub same_sound : (xs ys : Bytes) → same xs ys ≡ true → xs ≡ ys
same_sound [] [] e = refl
same_sound [] (y ∷ ys) e = absurd cc
same_sound (x ∷ xs) [] e = absurd cc
same_sound (x ∷ xs) (y ∷ ys) e = let p = and_parts (eqb x y) (same xs ys) e in let q = eqb-true x y p.0 in let r = same_sound xs ys p.1 in cc

pub same_itself : (xs : Bytes) → same xs xs ≡ true
same_itself [] = refl
same_itself (x ∷ xs) = and_from (eqb x x) (same xs xs) (eq-eqb x x refl) (same_itself xs)

-- the bytes before which digits are put, and the turns beyond those needed, do not matter
onto_append : (k j n : ℕ) (xs bs : Bytes) → n < k → n < j → digits_onto k n (xs ++ bs) ≡ digits_onto j n xs ++ bs
onto_append zero j n xs bs h g = absurd (omega arith)
onto_append (suc k) zero n xs bs h g = absurd (omega arith)
onto_append (suc k) (suc j) n xs bs h g = cond_both (ltb n 10) _ _ (λ x. x ≡ cond (ltb n 10) ((48 + n) ∷ xs) (digits_onto j (n / 10) ((48 + n % 10) ∷ xs)) ++ bs)
    (λ e. ap (λ x. x ++ bs) (sym (cond-true (ltb n 10) ((48 + n) ∷ xs) (digits_onto j (n / 10) ((48 + n % 10) ∷ xs)) e)))
    (λ e. onto_append k j (n / 10) ((48 + n % 10) ∷ xs) bs (omega (arith, ltb-false n 10 e)) (omega (arith, ltb-false n 10 e)) ∙ ap (λ x. x ++ bs) (sym (cond-false (ltb n 10) ((48 + n) ∷ xs) (digits_onto j (n / 10) ((48 + n % 10) ∷ xs)) e)))

numeral_more : (d x : ℕ) → 1 ≤ d → x < 10 → numeral (d * 10 + x) ≡ numeral d ++ ((48 + x) ∷ [])
numeral_more d x h g =
    let n = d * 10 + x in
    let q : n / 10 ≡ d = omega arith in
    let r : n % 10 ≡ x = omega arith in
    cond-false (ltb n 10) _ _ (le-ltb n 10 (omega arith)) ∙ (ap (λ y. digits_onto n y ((48 + n % 10) ∷ [])) q ∙ (ap (λ y. digits_onto n d ((48 + y) ∷ [])) r ∙ onto_append n (suc d) d [] ((48 + x) ∷ []) (omega arith) (omega arith)))

abbrev pub Digit : ℕ → Type 0
Digit x = (48 ≤ x) × (x ≤ 57)

-- digits after a number that is not 0 stand after its numeral
numeral_after : (xs : Bytes) (d : ℕ) → 1 ≤ d → All Digit xs → numeral (value_after d xs) ≡ numeral d ++ xs
numeral_after [] d h a = sym (append-nil (numeral d))
numeral_after (x ∷ xs) d h a =
    let digit = All-head Digit x xs a in let low : 48 ≤ x = digit.0 in let high : x ≤ 57 = digit.1 in
    let e : 48 + (x - 48) ≡ x = omega arith in
    numeral_after xs (d * 10 + (x - 48)) (omega arith) (All-tail Digit x xs a) ∙ (ap (λ y. y ++ xs) (numeral_more d (x - 48) h (omega arith)) ∙ (ap (λ y. (numeral d ++ (y ∷ [])) ++ xs) e ∙ append_assoc (numeral d) (x ∷ []) xs))

pub numeral_back : (bs : Bytes) → BaseTen bs → bs ≡ numeral (value bs)
numeral_back [] b = absurd (omega (arith, b.some))
numeral_back (x ∷ xs) b = ⊎_elim zero_alone leads (cases_eq x 48)
  where
    zero_alone : x ≡ 48 → x ∷ xs ≡ numeral (value (x ∷ xs))
    zero_alone e = alone xs (b.leading e)
      where
        alone : (ys : Bytes) → length (x ∷ ys) ≡ 1 → x ∷ ys ≡ numeral (value (x ∷ ys))
        alone [] n = subst (λ y. y ∷ [] ≡ numeral (value (y ∷ []))) (sym e) refl
        alone (y ∷ ys) n = absurd (omega arith)

    leads : ¬ (x ≡ 48) → x ∷ xs ≡ numeral (value (x ∷ xs))
    leads n =
        let low : 48 ≤ x = b.low 0 (omega arith) in let high : x ≤ 57 = b.high 0 (omega arith) in
        let e : 48 + (x - 48) ≡ x = omega arith in
        let d : 0 * 10 + (x - 48) ≡ x - 48 = omega arith in
        sym (numeral_after xs (0 * 10 + (x - 48)) (omega arith) (All-from_get_or Digit xs 0 (λ i q. (b.low (suc i) (omega arith), b.high (suc i) (omega arith)))) ∙ (ap (λ y. numeral y ++ xs) d ∙ (ap (λ y. y ++ xs) (cond-true (ltb (x - 48) 10) _ _ (lt-ltb (x - 48) 10 (omega arith))) ∙ ap (λ y. y ∷ xs) e)))

onto_leads : (k n : ℕ) (bs : Bytes) → n < k → 1 ≤ n → 48 < get_or (digits_onto k n bs) 0 0
onto_leads zero n bs h g = absurd (omega arith)
onto_leads (suc k) n bs h g = cond_both (ltb n 10) _ _ (λ x. 48 < get_or x 0 0) (λ e. omega arith) (λ e. onto_leads k (n / 10) ((48 + n % 10) ∷ bs) (omega (arith, ltb-false n 10 e)) (omega (arith, ltb-false n 10 e)))

onto_some : (k n : ℕ) (bs : Bytes) → n < k → 0 < length (digits_onto k n bs)
onto_some zero n bs h = absurd (omega arith)
onto_some (suc k) n bs h = cond_both (ltb n 10) _ _ (λ x. 0 < length x) (λ e. omega arith) (λ e. onto_some k (n / 10) ((48 + n % 10) ∷ bs) (omega (arith, ltb-false n 10 e)))

pub numeral_base_ten : (n : ℕ) → BaseTen (numeral n)
numeral_base_ten n = record {
  some = onto_some (suc n) n [] (omega arith);
  low = λ i q. All-get_or (λ x. 48 ≤ x) (numeral n) i 0 q (numeral_all (λ x. 48 ≤ x) (λ d h. omega arith) n);
  high = λ i q. All-get_or (λ x. x ≤ 57) (numeral n) i 0 q (numeral_all (λ x. x ≤ 57) (λ d h. omega arith) n);
  leading = leads n;
}
  where
    leads : (n : ℕ) → get_or (numeral n) 0 0 ≡ 48 → length (numeral n) ≡ 1
    leads zero h = refl
    leads (suc n) h = absurd (let q = onto_leads (suc (suc n)) (suc n) [] (omega arith) (omega arith) in omega arith)

pub numerals_are_base_ten : NumeralsAreBaseTen
numerals_are_base_ten bs n = ((λ e. (subst BaseTen (sym e) (numeral_base_ten n), numeral_value bs n e)), (λ h. numeral_back bs h.0 ∙ ap numeral h.1))
