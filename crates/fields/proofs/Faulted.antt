-- The first fault of a line that is computed is the one that the format's own terms name.
use Rattle.std.proofs.Common.{◌≡◌, ℕ, zero, suc, ◌+◌, ◌<◌, ◌≤◌, Bool, true, false, cond, ◌&&◌, eqb, leb, ◌⊎◌, List, [], ◌∷◌, ◌++◌, length, get_or, ℤ, pos, nat_abs, sym, refl, ap, ◌∙◌, subst, inl, inr, ⊎_elim, arith}
use Rattle.std.specs.List.{All}
use Rattle.std.proofs.lemmas.List.Elements.{All-from_get_or}
use Rattle.std.proofs.lemmas.Bool.{eqb-true, eqb-false, eq-eqb, ne_eqb, and_from, cond-true, cond-false, le-leb, or_left, or_right, both_ways}
use Rattle.fields.specs.Numerals.{Bytes, numeral, signed, value, signed_value}
use Rattle.fields.specs.Lines.{same, split, joined, Starts}
use Rattle.fields.specs.Kinds.{Kind, LetterOf, Good, Bad, Misread}
use Rattle.fields.specs.Kinds.Kind.{one_of, from_to, either_way}
use Rattle.fields.specs.Kinds.Misread.{unended, wrong_letter, wrong_count, wrong_field}
use Rattle.fields.specs.Checking.{Reported, reported, Checked, and_then, is_letter, check_field, check_fields, check_line, LineFaultsAreExact}
use Rattle.fields.specs.Checking.Checked.{good, faulty}
use Rattle.fields.proofs.Digits.{numeral_value, signed_is, same_sound, same_itself}
use Rattle.fields.proofs.Splitting.{Other, starts, started, first_part, not_ended}
use Rattle.fields.proofs.Faultless.{cond_good, letter_one, check_number, check_signed, field_sound, field_within}

pub fault_same : {A : Type 0} (x z : Reported) → ◌≡◌ {A = Checked A} (faulty x) (faulty z) → x ≡ z
fault_same x z h = cc

pub not_both : {A : Type 0} (a : A) (f : Reported) → good a ≡ faulty f → ⊥
not_both a f h = cc

pub cond_fail : {A : Type 0} (t : Bool) (x : Checked A) (g f : Reported) → cond t x (faulty g) ≡ faulty f → ((t ≡ false) × (f ≡ g)) ⊎ ((t ≡ true) × (x ≡ faulty f))
cond_fail true x g f h = inr (refl, h)
cond_fail false x g f h = inl (refl, sym (fault_same g f h))

pub then_fail : {A B : Type 0} (x : Checked A) (k : A → Checked B) (f : Reported) → and_then x k ≡ faulty f → (x ≡ faulty f) ⊎ ((a : A) × (x ≡ good a) × (k a ≡ faulty f))
then_fail (good a) k f h = inr (a, refl, h)
then_fail (faulty g) k f h = inl (ap faulty (fault_same g f h))

abbrev FieldFails : Kind → Bytes → (k i : ℕ) → Reported → Type 0
FieldFails t g k i f = (n : ℕ) × Bad t g n × (f ≡ reported n k i)

pub letter_complete : (ls f : Bytes) → Good (one_of ls) f → is_letter ls f ≡ true
letter_complete [] f (l, e, o) = absurd o
letter_complete (x ∷ ls) f (l, e, inl q) = or_left (same f (x ∷ [])) (is_letter ls f) (let d : x ∷ [] ≡ f = cc in subst (λ y. same f y ≡ true) (sym d) (same_itself f))
letter_complete (x ∷ ls) f (l, e, inr o) = or_right (same f (x ∷ [])) (is_letter ls f) (letter_complete ls f (l, e, o))

number_complete : (g : Bytes) (n : ℕ) → g ≡ numeral n → same g (numeral (value g)) ≡ true
number_complete g n e = subst (λ z. same g z ≡ true) (e ∙ ap numeral (sym (numeral_value g n e))) (same_itself g)

signed_complete : (g : Bytes) (z : ℤ) → g ≡ signed z → same g (signed (signed_value g)) ≡ true
signed_complete g z e = subst (λ y. same g y ≡ true) (e ∙ ap signed (sym (signed_is g z e))) (same_itself g)

-- a field that fails, and why
field_fail : (t : Kind) (k i : ℕ) (g : Bytes) (f : Reported) → check_field k i t g ≡ faulty f → FieldFails t g k i f
field_fail (one_of ls) k i g f h = ⊎_elim (λ a. (20, (refl, λ u. both_ways (is_letter ls g) a.0 (letter_complete ls g u)), a.1)) (λ a. absurd (not_both (pos (get_or g 0 0)) f a.1)) (cond_fail (is_letter ls g) (good (pos (get_or g 0 0))) (reported 20 k i) f h)
field_fail (from_to x y) k i g f h =
    let v = value g in
    let inner : Checked ℤ = cond (leb x v && leb v y) (good (pos v)) (faulty (reported 23 k i)) in
    ⊎_elim
    (λ a. (22, inl (refl, λ u. both_ways (same g (numeral v)) a.0 (number_complete g u.0 u.1)), a.1))
    (λ a. ⊎_elim
    (λ b. (23, inr (refl, (v, same_sound g (numeral v) a.0), λ u. let e = numeral_value g u.0 u.1 in let lo : x ≤ v = subst (λ z. x ≤ z) (sym e) u.2 in let hi : v ≤ y = subst (λ z. z ≤ y) (sym e) u.3 in both_ways (leb x v && leb v y) b.0 (and_from (leb x v) (leb v y) (le-leb x v lo) (le-leb v y hi))), b.1))
    (λ b. absurd (not_both (pos v) f b.1))
    (cond_fail (leb x v && leb v y) (good (pos v)) (reported 23 k i) f a.1))
    (cond_fail (same g (numeral v)) inner (reported 22 k i) f h)
field_fail (either_way m) k i g f h =
    let v = signed_value g in
    let inner : Checked ℤ = cond (leb (nat_abs v) m) (good v) (faulty (reported 23 k i)) in
    ⊎_elim
    (λ a. (22, inl (refl, λ u. both_ways (same g (signed v)) a.0 (signed_complete g u.0 u.1)), a.1))
    (λ a. ⊎_elim
    (λ b. (23, inr (refl, (v, same_sound g (signed v) a.0), λ u. let e = signed_is g u.0 u.1 in let hi : nat_abs v ≤ m = subst (λ z. nat_abs z ≤ m) (sym e) u.2 in both_ways (leb (nat_abs v) m) b.0 (le-leb (nat_abs v) m hi)), b.1))
    (λ b. absurd (not_both v f b.1))
    (cond_fail (leb (nat_abs v) m) (good v) (reported 23 k i) f a.1))
    (cond_fail (same g (signed v)) inner (reported 22 k i) f h)

pub field_fine : (t : Kind) (k i : ℕ) (g : Bytes) (z : ℤ) → check_field k i t g ≡ good z → Good t g
field_fine (one_of ls) k i g z h = let p = field_sound (one_of ls) k i g z h in let q = cond_good (is_letter ls g) (good (pos (get_or g 0 0))) (reported 20 k i) z h in (nat_abs z, p, letter_one ls (nat_abs z) (subst (λ x. is_letter ls x ≡ true) p q.0))
field_fine (from_to a b) k i g z h = let u = field_within (from_to a b) k i g z h in (nat_abs z, field_sound (from_to a b) k i g z h, u.0, u.1)
field_fine (either_way m) k i g z h = (z, field_sound (either_way m) k i g z h, field_within (either_way m) k i g z h)

-- and back
pub field_passes : (t : Kind) (k i : ℕ) (g : Bytes) → Good t g → (z : ℤ) × (check_field k i t g ≡ good z)
field_passes (one_of ls) k i g h = (pos (get_or g 0 0), cond-true (is_letter ls g) _ _ (letter_complete ls g h))
field_passes (from_to a b) k i g h = (pos h.0, ap (check_field k i (from_to a b)) h.1 ∙ check_number k i a b h.0 h.2 h.3)
field_passes (either_way m) k i g h = (h.0, ap (check_field k i (either_way m)) h.1 ∙ check_signed k i m h.0 h.2)

-- a field is bad by one number, and then not good
bad_once : (t : Kind) (g : Bytes) (a c : ℕ) → Bad t g a → Bad t g c → a ≡ c
bad_once (one_of ls) g a c p q = p.0 ∙ sym q.0
bad_once (from_to x y) g a c (inl p) (inl q) = p.0 ∙ sym q.0
bad_once (from_to x y) g a c (inl p) (inr q) = absurd (p.1 q.1)
bad_once (from_to x y) g a c (inr p) (inl q) = absurd (q.1 p.1)
bad_once (from_to x y) g a c (inr p) (inr q) = p.0 ∙ sym q.0
bad_once (either_way m) g a c (inl p) (inl q) = p.0 ∙ sym q.0
bad_once (either_way m) g a c (inl p) (inr q) = absurd (p.1 q.1)
bad_once (either_way m) g a c (inr p) (inl q) = absurd (q.1 p.1)
bad_once (either_way m) g a c (inr p) (inr q) = p.0 ∙ sym q.0

bad_not_good : (t : Kind) (g : Bytes) (n : ℕ) → Bad t g n → Good t g → ⊥
bad_not_good (one_of ls) g n p u = p.1 u
bad_not_good (from_to x y) g n (inl p) u = p.1 (u.0, u.1)
bad_not_good (from_to x y) g n (inr p) u = p.2 u
bad_not_good (either_way m) g n (inl p) u = p.1 (u.0, u.1)
bad_not_good (either_way m) g n (inr p) u = p.2 u

field_bad : (t : Kind) (k i n : ℕ) (g : Bytes) → Bad t g n → check_field k i t g ≡ faulty (reported n k i)
field_bad t k i n g b = either (check_field k i t g) refl
  where
    either : (r : Checked ℤ) → check_field k i t g ≡ r → r ≡ faulty (reported n k i)
    either (good z) e = absurd (bad_not_good t g n b (field_fine t k i g z e))
    either (faulty f) e = let a = field_fail t k i g f e in ap faulty (a.2 ∙ ap (λ x. reported x k i) (bad_once t g a.0 n a.1 b))

-- the first of some fields that fails
pub record FieldsFail (ts : List Kind) (fs : List Bytes) (k i : ℕ) (f : Reported) : Type 0 where
  pub at : ℕ
  pub number : ℕ
  pub inside : at < length fs
  pub before : (j : ℕ) → j < at → Good (get_or ts j (either_way 0)) (get_or fs j [])
  pub bad : Bad (get_or ts at (either_way 0)) (get_or fs at []) number
  pub is : f ≡ reported number k (i + at)

fields_fail : (ts : List Kind) (fs : List Bytes) (k i : ℕ) (f : Reported) → length fs ≡ length ts → check_fields k i ts fs ≡ faulty f → FieldsFail ts fs k i f
fields_fail [] [] k i f n h = absurd (not_both [] f h)
fields_fail [] (g ∷ fs) k i f n h = absurd (omega arith)
fields_fail (t ∷ ts) [] k i f n h = absurd (omega arith)
fields_fail (t ∷ ts) (g ∷ fs) k i f n h = ⊎_elim here (there (λ e. fields_fail ts fs k (suc i) f (omega arith) e)) (then_fail (check_field k i t g) (λ z. and_then (check_fields k (suc i) ts fs) (λ zs. good (z ∷ zs))) f h)
  where
    here : check_field k i t g ≡ faulty f → FieldsFail (t ∷ ts) (g ∷ fs) k i f
    here e = let a = field_fail t k i g f e in let z : i ≡ i + 0 = omega arith in record { at = 0; number = a.0; inside = omega arith; before = λ j q. absurd (omega arith); bad = a.1; is = a.2 ∙ ap (reported a.0 k) z }

    later : Good t g → FieldsFail ts fs k (suc i) f → FieldsFail (t ∷ ts) (g ∷ fs) k i f
    later e r = let z : suc i + r.at ≡ i + suc r.at = omega arith in let s : r.at < length fs = r.inside in record { at = suc r.at; number = r.number; inside = omega arith; before = elim [ zero ↦ λ q. e | suc j ↦ λ q. r.before j (omega arith) ]; bad = r.bad; is = r.is ∙ ap (reported r.number k) z }

    there : (check_fields k (suc i) ts fs ≡ faulty f → FieldsFail ts fs k (suc i) f) → (z : ℤ) × (check_field k i t g ≡ good z) × (and_then (check_fields k (suc i) ts fs) (λ zs. good (z ∷ zs)) ≡ faulty f) → FieldsFail (t ∷ ts) (g ∷ fs) k i f
    there rest a = ⊎_elim (λ e. later (field_fine t k i g a.0 a.1) (rest e)) (λ b. absurd (not_both (a.0 ∷ b.0) f b.2)) (then_fail (check_fields k (suc i) ts fs) (λ zs. good (a.0 ∷ zs)) f a.2)

fields_bad : (ts : List Kind) (fs : List Bytes) (k i at n : ℕ) → length fs ≡ length ts → at < length fs → ((j : ℕ) → j < at → Good (get_or ts j (either_way 0)) (get_or fs j [])) → Bad (get_or ts at (either_way 0)) (get_or fs at []) n → check_fields k i ts fs ≡ faulty (reported n k (i + at))
fields_bad [] [] k i at n l q b d = absurd (omega arith)
fields_bad [] (g ∷ fs) k i at n l q b d = absurd (omega arith)
fields_bad (t ∷ ts) [] k i at n l q b d = absurd (omega arith)
fields_bad (t ∷ ts) (g ∷ fs) k i zero n l q b d = let z : i ≡ i + 0 = omega arith in ap (λ r. and_then r (λ y. and_then (check_fields k (suc i) ts fs) (λ ys. good (y ∷ ys)))) (field_bad t k i n g d) ∙ ap (λ x. faulty (reported n k x)) z
fields_bad (t ∷ ts) (g ∷ fs) k i (suc at) n l q b d =
    let here = field_passes t k i g (b 0 (omega arith)) in
    let rest = fields_bad ts fs k (suc i) at n (omega arith) (omega arith) (λ j p. b (suc j) (omega arith)) d in
    let z : suc i + at ≡ i + suc at = omega arith in
    ap (λ r. and_then r (λ y. and_then (check_fields k (suc i) ts fs) (λ ys. good (y ∷ ys)))) here.1 ∙ (ap (λ r. and_then r (λ ys. good (here.0 ∷ ys))) rest ∙ ap (λ x. faulty (reported n k x)) z)

abbrev LineFails : Bytes → (ℕ → List Kind) → Bytes → ℕ → Reported → Type 0
LineFails ls ts bs k f = (n : ℕ) × (i : ℕ) × (f ≡ reported n k i) × Misread ls ts bs n i

-- what follows once the first part and the others are known
abbrev pub check_parts : (k : ℕ) → Bytes → (ℕ → List Kind) → Bytes × List Bytes → Checked (ℕ × List ℤ)
check_parts k ls ts p = and_then (check_field k 1 (one_of ls) p.0) (λ y. cond (eqb (length p.1) (length (ts (nat_abs y)))) (and_then (check_fields k 2 (ts (nat_abs y)) p.1) (λ ys. good (nat_abs y, ys))) (faulty (reported 21 k 0)))

abbrev pub check_counted : (k : ℕ) → List Kind → ℕ → List Bytes → Checked (ℕ × List ℤ)
check_counted k ks x gs = cond (eqb (length gs) (length ks)) (and_then (check_fields k 2 ks gs) (λ ys. good (x, ys))) (faulty (reported 21 k 0))

line_after : (k : ℕ) (ls : Bytes) (ts : ℕ → List Kind) (l onw : Bytes) (f : Reported) → All (Other 10) l → (x : ℕ) → (split 9 l).0 ≡ x ∷ [] → LetterOf ls x → check_counted k (ts x) x (split 9 l).1 ≡ faulty f → LineFails ls ts (l ++ (10 ∷ onw)) k f
line_after k ls ts l onw f a x p o h =
    let gs = (split 9 l).1 in
    let s : Starts (l ++ (10 ∷ onw)) (x ∷ []) gs = subst (λ y. Starts (l ++ (10 ∷ onw)) y gs) p (starts l onw a) in
    ⊎_elim
    (λ b. (21, 0, b.1, wrong_count x gs s o (eqb-false (length gs) (length (ts x)) b.0)))
    (λ b. let n = eqb-true (length gs) (length (ts x)) b.0 in ⊎_elim
    (λ e. let r = fields_fail (ts x) gs k 2 f n e in let z : 2 + r.at ≡ r.at + 2 = omega arith in (r.number, r.at + 2, r.is ∙ ap (reported r.number k) z, wrong_field x gs r.at r.number s o n r.inside r.before r.bad))
    (λ e. absurd (not_both {A = ℕ × List ℤ} (x, e.0) f e.2))
    (then_fail {B = ℕ × List ℤ} (check_fields k 2 (ts x) gs) (λ zs. good (x, zs)) f b.1))
    (cond_fail {A = ℕ × List ℤ} (eqb (length gs) (length (ts x))) (and_then (check_fields k 2 (ts x) gs) (λ zs. good (x, zs))) (reported 21 k 0) f h)

line_fail : (k : ℕ) (ls : Bytes) (ts : ℕ → List Kind) (l onw : Bytes) (f : Reported) → All (Other 10) l → check_line k ls ts l ≡ faulty f → LineFails ls ts (l ++ (10 ∷ onw)) k f
line_fail k ls ts l onw f a h =
    let g = (split 9 l).0 in let gs = (split 9 l).1 in
    ⊎_elim
    (λ e. let b = cond_fail (is_letter ls g) (good (pos (get_or g 0 0))) (reported 20 k 1) f e in ⊎_elim (λ d. (20, 1, d.1, wrong_letter g gs (starts l onw a) (λ u. both_ways (is_letter ls g) d.0 (letter_complete ls g u)))) (λ d. absurd (not_both (pos (get_or g 0 0)) f d.1)) b)
    (λ r. let v = r.0 in let p = field_sound (one_of ls) k 1 g v r.1 in let q = cond_good (is_letter ls g) (good (pos (get_or g 0 0))) (reported 20 k 1) v r.1 in line_after k ls ts l onw f a (nat_abs v) p (letter_one ls (nat_abs v) (subst (λ x. is_letter ls x ≡ true) p q.0)) r.2)
    (then_fail {B = ℕ × List ℤ} (check_field k 1 (one_of ls) g) (λ v. check_counted k (ts (nat_abs v)) (nat_abs v) gs) f h)

-- the line that some bytes begin with is the one that is checked
pub line_started : (k : ℕ) (ls : Bytes) (ts : ℕ → List Kind) (l onw f : Bytes) (fs : List Bytes) → All (Other 10) l → Starts (l ++ (10 ∷ onw)) f fs → check_line k ls ts l ≡ check_parts k ls ts (f, fs)
line_started k ls ts l onw f fs a s =
    let d = started (l ++ (10 ∷ onw)) f fs s in
    let e : l ≡ joined 9 f fs = first_part 10 l (joined 9 f fs) onw s.more a d.0 s.whole in
    ap (λ x. check_parts k ls ts (split 9 x)) e ∙ ap (check_parts k ls ts) d.1

pub letter_passes : (k : ℕ) (ls : Bytes) (ts : ℕ → List Kind) (x : ℕ) (fs : List Bytes) → LetterOf ls x → check_parts k ls ts (x ∷ [], fs) ≡ check_counted k (ts x) x fs
letter_passes k ls ts x fs o = ap (λ r. and_then r (λ y. check_counted k (ts (nat_abs y)) (nat_abs y) fs)) (cond-true (is_letter ls (x ∷ [])) (good (pos x)) (faulty (reported 20 k 1)) (letter_complete ls (x ∷ []) (x, refl, o)))

line_misread : (k : ℕ) (ls : Bytes) (ts : ℕ → List Kind) (l onw : Bytes) (n i : ℕ) → All (Other 10) l → Misread ls ts (l ++ (10 ∷ onw)) n i → check_line k ls ts l ≡ faulty (reported n k i)
line_misread k ls ts l onw n i a (unended w) = absurd (not_ended 10 l onw w)
line_misread k ls ts l onw n i a (wrong_letter f fs s b) = line_started k ls ts l onw f fs a s ∙ ap (λ r. and_then r (λ y. check_counted k (ts (nat_abs y)) (nat_abs y) fs)) (field_bad (one_of ls) k 1 20 f (refl, b))
line_misread k ls ts l onw n i a (wrong_count x fs s o b) = line_started k ls ts l onw (x ∷ []) fs a s ∙ (letter_passes k ls ts x fs o ∙ cond-false (eqb (length fs) (length (ts x))) _ _ (ne_eqb (length fs) (length (ts x)) b))
line_misread k ls ts l onw n i a (wrong_field x fs j q s o c in-it b d) =
    let z : 2 + j ≡ j + 2 = omega arith in
    line_started k ls ts l onw (x ∷ []) fs a s ∙ (letter_passes k ls ts x fs o ∙ (cond-true (eqb (length fs) (length (ts x))) _ _ (eq-eqb (length fs) (length (ts x)) c) ∙ (ap (λ r. and_then r (λ ys. good (x, ys))) (fields_bad (ts x) fs k 2 j q c in-it b d) ∙ ap (λ y. faulty (reported q k y)) z)))

pub line_faults_are_exact_lem : LineFaultsAreExact
line_faults_are_exact_lem k ls ts l onw f w =
    let a = All-from_get_or (Other 10) l 0 w in
    ((λ h. line_fail k ls ts l onw f a h), (λ h. line_misread k ls ts l onw h.0 h.1 a h.3 ∙ ap faulty (sym h.2)))
