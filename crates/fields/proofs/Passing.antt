-- A line passes exactly where its letter and all its fields are good.
use Rattle.std.proofs.Common.{◌≡◌, ℕ, zero, suc, true, eqb, ◌⊎◌, List, [], ◌∷◌, ◌++◌, length, get_or, ℤ, pos, nat_abs, refl, ap, ◌∙◌, subst, inl, inr, arith}
use Rattle.std.specs.List.{All}
use Rattle.std.proofs.lemmas.Bool.{eq-eqb, cond-true}
use Rattle.fields.specs.Numerals.{Bytes}
use Rattle.fields.specs.Lines.{split, joined, Without, Starts}
use Rattle.fields.specs.Kinds.{Kind, LetterOf, AllGood, Misread}
use Rattle.fields.specs.Kinds.Kind.{one_of}
use Rattle.fields.specs.Kinds.Misread.{unended, wrong_letter, wrong_count, wrong_field}
use Rattle.fields.specs.Checking.{reported, and_then, is_letter, check_field, check_fields, check_line}
use Rattle.fields.specs.Checking.Checked.{good}
use Rattle.fields.proofs.Splitting.{Other, starts, started}
use Rattle.fields.proofs.Faultless.{good_same, cond_good, then_good, letter_one, field_sound, fields_say, spelled}
use Rattle.fields.proofs.Faulted.{field_fine, field_passes, check_counted, line_started, letter_passes}

fields_fine : (ts : List Kind) (fs : List Bytes) (k i : ℕ) (ys : List ℤ) → check_fields k i ts fs ≡ good ys → AllGood ts fs
fields_fine [] [] k i ys h = (refl, λ j q. absurd (omega arith))
fields_fine [] (f ∷ fs) k i ys h = absurd cc
fields_fine (t ∷ ts) [] k i ys h = absurd cc
fields_fine (t ∷ ts) (f ∷ fs) k i ys h =
    let a = then_good (check_field k i t f) (λ z. and_then (check_fields k (suc i) ts fs) (λ zs. good (z ∷ zs))) ys h in
    let b = then_good (check_fields k (suc i) ts fs) (λ zs. good (a.0 ∷ zs)) ys a.2 in
    let rest = fields_fine ts fs k (suc i) b.0 b.1 in
    (ap suc rest.0, elim [ zero ↦ λ q. field_fine t k i f a.0 a.1 | suc j ↦ λ q. rest.1 j (omega arith) ])

fields_pass : (ts : List Kind) (fs : List Bytes) (k i : ℕ) → AllGood ts fs → (ys : List ℤ) × (check_fields k i ts fs ≡ good ys)
fields_pass [] [] k i a = ([], refl)
fields_pass [] (f ∷ fs) k i a = let n = a.0 in absurd (omega arith)
fields_pass (t ∷ ts) [] k i a = let n = a.0 in absurd (omega arith)
fields_pass (t ∷ ts) (f ∷ fs) k i a =
    let n = a.0 in
    let here = field_passes t k i f (a.1 0 (omega arith)) in
    let rest = fields_pass ts fs k (suc i) ((omega arith), λ j q. a.1 (suc j) (omega arith)) in
    (here.0 ∷ rest.0, ap (λ r. and_then r (λ y. and_then (check_fields k (suc i) ts fs) (λ ys. good (y ∷ ys)))) here.1 ∙ ap (λ r. and_then r (λ ys. good (here.0 ∷ ys))) rest.1)

-- the fields of a line that passed
pub record LineGood (ls : Bytes) (ts : ℕ → List Kind) (bs : Bytes) (y : ℕ × List ℤ) : Type 0 where
  pub fields : List Bytes
  pub line : Starts bs (y.0 ∷ []) fields
  pub letter : LetterOf ls y.0
  pub all_good : AllGood (ts y.0) fields
  pub spell : fields ≡ spelled (ts y.0) 0 y.1

pub line_fine : (k : ℕ) (ls : Bytes) (ts : ℕ → List Kind) (l onw : Bytes) (y : ℕ × List ℤ) → All (Other 10) l → check_line k ls ts l ≡ good y → LineGood ls ts (l ++ (10 ∷ onw)) y
line_fine k ls ts l onw y a h =
    let g = (split 9 l).0 in let gs = (split 9 l).1 in
    let u = then_good (check_field k 1 (one_of ls) g) (λ v. check_counted k (ts (nat_abs v)) (nat_abs v) gs) y h in
    let x = nat_abs u.0 in
    let p : g ≡ x ∷ [] = field_sound (one_of ls) k 1 g u.0 u.1 in
    let q = cond_good (is_letter ls g) (good (pos (get_or g 0 0))) (reported 20 k 1) u.0 u.1 in
    let b = cond_good (eqb (length gs) (length (ts x))) (and_then (check_fields k 2 (ts x) gs) (λ zs. good (x, zs))) (reported 21 k 0) y u.2 in
    let d = then_good (check_fields k 2 (ts x) gs) (λ zs. good (x, zs)) y b.1 in
    subst (LineGood ls ts (l ++ (10 ∷ onw))) (good_same (x, d.0) y d.2) (record {
      fields = gs;
      line = subst (λ z. Starts (l ++ (10 ∷ onw)) z gs) p (starts l onw a);
      letter = letter_one ls x (subst (λ z. is_letter ls z ≡ true) p q.0);
      all_good = fields_fine (ts x) gs k 2 d.0 d.1;
      spell = (fields_say (ts x) gs k 2 [] d.0 d.1).0;
    })

pub line_passes : (k : ℕ) (ls : Bytes) (ts : ℕ → List Kind) (l onw : Bytes) (x : ℕ) (fs : List Bytes) → All (Other 10) l → Starts (l ++ (10 ∷ onw)) (x ∷ []) fs → LetterOf ls x → AllGood (ts x) fs → (zs : List ℤ) × (check_line k ls ts l ≡ good (x, zs)) × (fs ≡ spelled (ts x) 0 zs)
line_passes k ls ts l onw x fs a s o g =
    let r = fields_pass (ts x) fs k 2 g in
    (r.0, line_started k ls ts l onw (x ∷ []) fs a s ∙ (letter_passes k ls ts x fs o ∙ (cond-true (eqb (length fs) (length (ts x))) _ _ (eq-eqb (length fs) (length (ts x)) g.0) ∙ ap (λ z. and_then z (λ ys. good (x, ys))) r.1)), (fields_say (ts x) fs k 2 [] r.0 r.1).0)

-- a line that is misread is ended, or no newline is left
pub misread_line : (ls : Bytes) (ts : ℕ → List Kind) (bs : Bytes) (n i : ℕ) → Misread ls ts bs n i → (Without 10 bs × (n ≡ 26) × (i ≡ 0)) ⊎ ((l : Bytes) × (onw : Bytes) × All (Other 10) l × (bs ≡ l ++ (10 ∷ onw)))
misread_line ls ts bs n i (unended w) = inl (w, refl, refl)
misread_line ls ts bs n i (wrong_letter f fs s b) = inr (joined 9 f fs, s.more, (started bs f fs s).0, s.whole)
misread_line ls ts bs n i (wrong_count x fs s o b) = inr (joined 9 (x ∷ []) fs, s.more, (started bs (x ∷ []) fs s).0, s.whole)
misread_line ls ts bs n i (wrong_field x fs j q s o c in-it b d) = inr (joined 9 (x ∷ []) fs, s.more, (started bs (x ∷ []) fs s).0, s.whole)
