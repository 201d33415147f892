-- Fields and lines that pass: their bytes and their values determine each other.
use Rattle.std.proofs.Common.{◌≡◌, ℕ, suc, ◌≤◌, Bool, true, false, cond, ◌&&◌, eqb, leb, List, [], ◌∷◌, ◌++◌, length, get_or, ℤ, pos, negsuc, nat_abs, sym, refl, ap, ◌∙◌, subst, inl, inr, ⊎_elim, append_assoc, arith, lit≤, length-append}
use lib.Seq.{get_or-append_seam}
use Rattle.std.specs.List.{All}
use Rattle.std.proofs.lemmas.List.Elements.{All-nil, All-cons, All-weaker}
use Rattle.std.proofs.lemmas.Bool.{eq-eqb, and_parts, and_from, cond-true, le-leb, leb-true, or_cases}
use Rattle.fields.specs.Numerals.{Bytes, numeral, signed, value, signed_value}
use Rattle.fields.specs.Lines.{same, split, joined}
use Rattle.fields.specs.Kinds.{Kind, LetterOf}
use Rattle.fields.specs.Kinds.Kind.{one_of, from_to, either_way}
use Rattle.fields.specs.Checking.{Reported, reported, Checked, and_then, is_letter, check_field, check_fields, check_line}
use Rattle.fields.specs.Checking.Checked.{good, faulty}
use Rattle.fields.proofs.Digits.{numeral_all, value_numeral, value_signed, same_sound, same_itself}
use Rattle.fields.proofs.Splitting.{Other, joined_split, split_joined}

pub good_same : {A : Type 0} (x z : A) → good x ≡ good z → x ≡ z
good_same x z h = cc

pub cond_good : {A : Type 0} (t : Bool) (x : Checked A) (g : Reported) (z : A) → cond t x (faulty g) ≡ good z → (t ≡ true) × (x ≡ good z)
cond_good true x g z h = (refl, h)
cond_good false x g z h = absurd cc

pub then_good : {A B : Type 0} (x : Checked A) (f : A → Checked B) (b : B) → and_then x f ≡ good b → (a : A) × (x ≡ good a) × (f a ≡ good b)
then_good (good a) f b h = (a, refl, h)
then_good (faulty g) f b h = absurd cc

-- neither a tab nor a newline
abbrev pub Dark : ℕ → Type 0
Dark x = 11 ≤ x

pub numeral_dark : (n : ℕ) → All Dark (numeral n)
numeral_dark n = numeral_all Dark (λ d h. omega arith) n

pub signed_dark : (z : ℤ) → All Dark (signed z)
signed_dark (pos n) = numeral_dark n
signed_dark (negsuc n) = All-cons Dark 45 (numeral (suc n)) (lit≤ tt) (numeral_dark (suc n))

pub check_number : (k i a b n : ℕ) → a ≤ n → n ≤ b → check_field k i (from_to a b) (numeral n) ≡ good (pos n)
check_number k i a b n p q = subst (λ v. cond (same (numeral n) (numeral v)) (cond (leb a v && leb v b) (good (pos v)) (faulty (reported 23 k i))) (faulty (reported 22 k i)) ≡ good (pos n)) (sym (value_numeral n)) (cond-true (same (numeral n) (numeral n)) _ _ (same_itself (numeral n)) ∙ cond-true (leb a n && leb n b) _ _ (and_from (leb a n) (leb n b) (le-leb a n p) (le-leb n b q)))

pub check_signed : (k i b : ℕ) (z : ℤ) → nat_abs z ≤ b → check_field k i (either_way b) (signed z) ≡ good z
check_signed k i b z p = subst (λ v. cond (same (signed z) (signed v)) (cond (leb (nat_abs v) b) (good v) (faulty (reported 23 k i))) (faulty (reported 22 k i)) ≡ good z) (sym (value_signed z)) (cond-true (same (signed z) (signed z)) _ _ (same_itself (signed z)) ∙ cond-true (leb (nat_abs z) b) _ _ (le-leb (nat_abs z) b p))

-- fields that pass one by one, with their values
pub data Passes (k : ℕ) : ℕ → List Kind → List Bytes → List ℤ → Type 0 where
  none : {i : ℕ} → Passes k i [] [] []
  one : {i : ℕ} {t : Kind} {f : Bytes} {z : ℤ} {ts : List Kind} {fs : List Bytes} {zs : List ℤ} → check_field k i t f ≡ good z → Passes k (suc i) ts fs zs → Passes k i (t ∷ ts) (f ∷ fs) (z ∷ zs)

pub passes : {k i : ℕ} {ts : List Kind} {fs : List Bytes} {zs : List ℤ} → Passes k i ts fs zs → check_fields k i ts fs ≡ good zs
passes none = refl
passes {k} (one {i} {t} {f} {z} {ts} {fs} {zs} h r) = ap (λ x. and_then x (λ y. and_then (check_fields k (suc i) ts fs) (λ ys. good (y ∷ ys)))) h ∙ ap (λ x. and_then x (λ ys. good (z ∷ ys))) (passes r)

pub line_good : (k l : ℕ) (ls : Bytes) (ts : ℕ → List Kind) (fs : List Bytes) (zs : List ℤ) → Dark l → All (All Dark) fs → is_letter ls (l ∷ []) ≡ true → length fs ≡ length (ts l) → Passes k 2 (ts l) fs zs → check_line k ls ts (joined 9 (l ∷ []) fs) ≡ good (l, zs)
line_good k l ls ts fs zs d ds e n h = ap (λ p. and_then (check_field k 1 (one_of ls) p.0) (λ y. cond (eqb (length p.1) (length (ts (nat_abs y)))) (and_then (check_fields k 2 (ts (nat_abs y)) p.1) (λ ys. good (nat_abs y, ys))) (faulty (reported 21 k 0)))) (split_joined 9 (l ∷ []) fs (All-cons (Other 9) l [] (λ q. omega arith) (All-nil (Other 9))) (All-weaker (All Dark) (All (Other 9)) (All-weaker Dark (Other 9) (λ x g q. omega arith)) fs ds)) ∙ (ap (λ r. and_then r (λ y. cond (eqb (length fs) (length (ts (nat_abs y)))) (and_then (check_fields k 2 (ts (nat_abs y)) fs) (λ ys. good (nat_abs y, ys))) (faulty (reported 21 k 0)))) (cond-true (is_letter ls (l ∷ [])) (good (pos l)) (faulty (reported 20 k 1)) e) ∙ (cond-true (eqb (length fs) (length (ts l))) _ _ (eq-eqb (length fs) (length (ts l)) n) ∙ ap (λ r. and_then r (λ ys. good (l, ys))) (passes h)))

-- the bytes of a field of which the value is known
abbrev pub bytes_for : Kind → ℤ → Bytes
bytes_for (one_of ls) z = nat_abs z ∷ []
bytes_for (from_to a b) z = numeral (nat_abs z)
bytes_for (either_way b) z = signed z

letter_sound : (ls f : Bytes) → is_letter ls f ≡ true → f ≡ get_or f 0 0 ∷ []
letter_sound [] f h = absurd cc
letter_sound (l ∷ ls) f h = ⊎_elim (λ e. let q = same_sound f (l ∷ []) e in q ∙ ap (λ x. get_or x 0 0 ∷ []) (sym q)) (letter_sound ls f) (or_cases (same f (l ∷ [])) (is_letter ls f) h)

pub letter_one : (ls : Bytes) (x : ℕ) → is_letter ls (x ∷ []) ≡ true → LetterOf ls x
letter_one [] x h = absurd cc
letter_one (l ∷ ls) x h = ⊎_elim (λ e. inl (let q = same_sound (x ∷ []) (l ∷ []) e in cc)) (λ e. inr (letter_one ls x e)) (or_cases (same (x ∷ []) (l ∷ [])) (is_letter ls (x ∷ [])) h)

pub field_sound : (t : Kind) (k i : ℕ) (f : Bytes) (z : ℤ) → check_field k i t f ≡ good z → f ≡ bytes_for t z
field_sound (one_of ls) k i f z h = let a = cond_good (is_letter ls f) (good (pos (get_or f 0 0))) (reported 20 k i) z h in let q : ◌≡◌ {A = ℤ} (pos (get_or f 0 0)) z = cc in letter_sound ls f a.0 ∙ ap (λ x. nat_abs x ∷ []) q
field_sound (from_to x y) k i f z h = let a = cond_good (same f (numeral (value f))) (cond (leb x (value f) && leb (value f) y) (good (pos (value f))) (faulty (reported 23 k i))) (reported 22 k i) z h in let b = cond_good (leb x (value f) && leb (value f) y) (good (pos (value f))) (reported 23 k i) z a.1 in let q : ◌≡◌ {A = ℤ} (pos (value f)) z = cc in same_sound f (numeral (value f)) a.0 ∙ ap (λ v. numeral (nat_abs v)) q
field_sound (either_way m) k i f z h = let a = cond_good (same f (signed (signed_value f))) (cond (leb (nat_abs (signed_value f)) m) (good (signed_value f)) (faulty (reported 23 k i))) (reported 22 k i) z h in let b = cond_good (leb (nat_abs (signed_value f)) m) (good (signed_value f)) (reported 23 k i) z a.1 in let q : ◌≡◌ {A = ℤ} (signed_value f) z = cc in same_sound f (signed (signed_value f)) a.0 ∙ ap signed q

-- the value of a field that passed keeps its limits
abbrev pub Within : Kind → ℤ → Type 0
Within (one_of ls) z = Unit {0}
Within (from_to a b) z = (a ≤ nat_abs z) × (nat_abs z ≤ b)
Within (either_way b) z = nat_abs z ≤ b

pub field_within : (t : Kind) (k i : ℕ) (f : Bytes) (z : ℤ) → check_field k i t f ≡ good z → Within t z
field_within (one_of ls) k i f z h = tt
field_within (from_to x y) k i f z h = let a = cond_good (same f (numeral (value f))) (cond (leb x (value f) && leb (value f) y) (good (pos (value f))) (faulty (reported 23 k i))) (reported 22 k i) z h in let b = cond_good (leb x (value f) && leb (value f) y) (good (pos (value f))) (reported 23 k i) z a.1 in let q = good_same (pos (value f)) z b.1 in let d = and_parts (leb x (value f)) (leb (value f) y) b.0 in subst (λ v. (x ≤ nat_abs v) × (nat_abs v ≤ y)) q (leb-true x (value f) d.0, leb-true (value f) y d.1)
field_within (either_way m) k i f z h = let a = cond_good (same f (signed (signed_value f))) (cond (leb (nat_abs (signed_value f)) m) (good (signed_value f)) (faulty (reported 23 k i))) (reported 22 k i) z h in let b = cond_good (leb (nat_abs (signed_value f)) m) (good (signed_value f)) (reported 23 k i) z a.1 in let q = good_same (signed_value f) z b.1 in subst (λ v. nat_abs v ≤ m) q (leb-true (nat_abs (signed_value f)) m b.0)

-- both, of the values from place i on
abbrev pub spelled : List Kind → ℕ → List ℤ → List Bytes
spelled [] i zs = []
spelled (t ∷ ts) i zs = bytes_for t (get_or zs i (pos 0)) ∷ spelled ts (suc i) zs

abbrev pub Bounded : List Kind → ℕ → List ℤ → Type 0
Bounded [] i zs = Unit {0}
Bounded (t ∷ ts) i zs = Within t (get_or zs i (pos 0)) × Bounded ts (suc i) zs

abbrev pub Says : List Kind → List Bytes → ℕ → List ℤ → Type 0
Says ts fs i zs = (fs ≡ spelled ts i zs) × Bounded ts i zs

pub fields_say : (ts : List Kind) (fs : List Bytes) (k i : ℕ) (pre ys : List ℤ) → check_fields k i ts fs ≡ good ys → Says ts fs (length pre) (pre ++ ys)
fields_say [] [] k i pre ys h = (refl, tt)
fields_say [] (f ∷ fs) k i pre ys h = absurd cc
fields_say (t ∷ ts) [] k i pre ys h = absurd cc
fields_say (t ∷ ts) (f ∷ fs) k i pre ys h =
    let a = then_good (check_field k i t f) (λ z. and_then (check_fields k (suc i) ts fs) (λ zs. good (z ∷ zs))) ys h in
    let z = a.0 in
    let b = then_good (check_fields k (suc i) ts fs) (λ zs. good (z ∷ zs)) ys a.2 in
    let zs = b.0 in
    let e : z ∷ zs ≡ ys = good_same (z ∷ zs) ys b.2 in
    let n : length (pre ++ (z ∷ [])) ≡ suc (length pre) = simp length-append (omega arith) in
    let rest = fields_say ts fs k (suc i) (pre ++ (z ∷ [])) zs b.1 in
    let rest' : Says ts fs (suc (length pre)) (pre ++ (z ∷ zs)) = subst (λ x. Says ts fs (suc (length pre)) x) (append_assoc pre (z ∷ []) zs) (subst (λ j. Says ts fs j ((pre ++ (z ∷ [])) ++ zs)) n rest) in
    let here = sym (get_or-append_seam pre z zs (pos 0)) in
    let head : f ≡ bytes_for t (get_or (pre ++ (z ∷ zs)) (length pre) (pos 0)) = field_sound t k i f z a.1 ∙ ap (bytes_for t) here in
    subst (λ y. Says (t ∷ ts) (f ∷ fs) (length pre) (pre ++ y)) e (ap (λ x. x ∷ fs) head ∙ ap (λ x. bytes_for t (get_or (pre ++ (z ∷ zs)) (length pre) (pos 0)) ∷ x) rest'.0, (subst (Within t) here (field_within t k i f z a.1), rest'.1))

-- what a line that passed is, by its letter and values
pub record LineRead (ls : Bytes) (ts : ℕ → List Kind) (l : Bytes) (y : ℕ × List ℤ) : Type 0 where
  pub letter : is_letter ls (y.0 ∷ []) ≡ true
  pub whole : l ≡ joined 9 (y.0 ∷ []) (spelled (ts y.0) 0 y.1)
  pub bounded : Bounded (ts y.0) 0 y.1

pub line_sound : (k : ℕ) (ls : Bytes) (ts : ℕ → List Kind) (l : Bytes) (y : ℕ × List ℤ) → check_line k ls ts l ≡ good y → LineRead ls ts l y
line_sound k ls ts l y h =
    let f = (split 9 l).0 in let fs = (split 9 l).1 in
    let a = then_good (check_field k 1 (one_of ls) f) (λ v. cond (eqb (length fs) (length (ts (nat_abs v)))) (and_then (check_fields k 2 (ts (nat_abs v)) fs) (λ zs. good (nat_abs v, zs))) (faulty (reported 21 k 0))) y h in
    let v = a.0 in
    let b = cond_good (eqb (length fs) (length (ts (nat_abs v)))) (and_then (check_fields k 2 (ts (nat_abs v)) fs) (λ zs. good (nat_abs v, zs))) (reported 21 k 0) y a.2 in
    let d = then_good (check_fields k 2 (ts (nat_abs v)) fs) (λ zs. good (nat_abs v, zs)) y b.1 in
    let e : (nat_abs v, d.0) ≡ y = good_same (nat_abs v, d.0) y d.2 in
    let p = field_sound (one_of ls) k 1 f v a.1 in
    let q = cond_good (is_letter ls f) (good (pos (get_or f 0 0))) (reported 20 k 1) v a.1 in
    let s = fields_say (ts (nat_abs v)) fs k 2 [] d.0 d.1 in
    subst (LineRead ls ts l) e (record { letter = subst (λ x. is_letter ls x ≡ true) p q.0; whole = sym (joined_split 9 l) ∙ (ap (λ x. joined 9 x fs) p ∙ ap (joined 9 (nat_abs v ∷ [])) s.0); bounded = s.1 })
