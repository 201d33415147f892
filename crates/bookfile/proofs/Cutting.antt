-- The fields of a line, cut off one by one.
use Rattle.std.proofs.Common.{◌≡◌, ℕ, suc, ◌+◌, ◌≤◌, List, [], ◌∷◌, length, ℤ, sym, refl, ap, ◌∙◌, arith}
use Rattle.fields.specs.declared.parts.Field.{Field}
use Rattle.fields.specs.Numerals.{Bytes}
use Rattle.fields.specs.Lines.{split}
use Rattle.fields.specs.Kinds.{Kind}
use Rattle.fields.specs.Checking.{Reported, Checked, and_then, check_field, check_fields}
use Rattle.fields.specs.Checking.Checked.{good, faulty}
use Rattle.fields.specs.Views.{bytes_of, CutField, LeftAfter}
use Rattle.bookfile.specs.Entered.{Left}

-- fields that are cut off one after another until all are read or one is at fault, and what comes of it
pub data Cuts : (n at : ℕ) → Bytes → List Kind → Checked (List ℤ) → Type 0 where
  all_read : {n at : ℕ} {rest : Bytes} → Cuts n at rest [] (good [])
  one_read : {n at m o n' at' : ℕ} {rest after : Bytes} {g : Field} {t : Kind} {ts : List Kind} {z : ℤ} {r : Checked (List ℤ)} → CutField n at rest m o g → LeftAfter n at rest n' at' after → check_field m o t (bytes_of g) ≡ good z → Cuts n' at' after ts r → Cuts n at rest (t ∷ ts) (and_then r (λ zs. good (z ∷ zs)))
  at_fault : {n at m o : ℕ} {rest : Bytes} {g : Field} {t : Kind} {ts : List Kind} {x : Reported} → CutField n at rest m o g → check_field m o t (bytes_of g) ≡ faulty x → Cuts n at rest (t ∷ ts) (faulty x)

pub next_left : (rest after : Bytes) (f : Bytes) (fs : List Bytes) (k i n at : ℕ) → split 9 rest ≡ (f, fs) → LeftAfter k i rest n at after → Left after fs
next_left rest after f [] k i n at e a = tt
next_left rest after f (g ∷ gs) k i n at e a = a.parts_are g gs (ap (λ p. p.1) e)

-- the field that was cut off is the first of the line's fields that are left
pub same_field : {n at m o : ℕ} {rest : Bytes} {g : Field} → CutField n at rest m o g → (k i : ℕ) (t : Kind) (f : Bytes) (fs : List Bytes) → n ≡ k → at ≡ i → split 9 rest ≡ (f, fs) → check_field k i t f ≡ check_field m o t (bytes_of g)
same_field {n} {at} {m} {o} {rest} {g} c k i t f fs l p left =
    let line : m ≡ k = c.line_is ∙ l in
    let place : o ≡ i = c.place_is ∙ p in
    let bytes : bytes_of g ≡ f = c.bytes_are ∙ ap (λ y. y.0) left in
    sym (ap (λ y. check_field y o t (bytes_of g)) line ∙ (ap (λ y. check_field k y t (bytes_of g)) place ∙ ap (check_field k i t) bytes))

-- what comes of the fields that were cut off comes of the fields of the line
in_cuts : {n at : ℕ} {rest : Bytes} {ts : List Kind} {r : Checked (List ℤ)} → Cuts n at rest ts r → (k i : ℕ) (fs : List Bytes) → n ≡ k → at ≡ i → Left rest fs → length fs ≡ length ts → i + length ts ≤ 100 → check_fields k i ts fs ≡ r
in_cuts all_read k i [] l p left long few = refl
in_cuts all_read k i (f ∷ fs) l p left long few = absurd (omega arith)
in_cuts (one_read {n} {at} {m} {o} {n'} {at'} {rest} {after} {g} {t} {ts} {z} {r} c a e more) k i [] l p left long few = absurd (omega arith)
in_cuts (one_read {n} {at} {m} {o} {n'} {at'} {rest} {after} {g} {t} {ts} {z} {r} c a e more) k i (f ∷ fs) l p left long few =
    let q = a.place_is in
    let on = in_cuts more k (suc i) fs (a.line_is ∙ l) (omega arith) (next_left rest after f fs n at n' at' left a) (omega arith) (omega arith) in
    ap (λ x. and_then x (λ y. and_then (check_fields k (suc i) ts fs) (λ zs. good (y ∷ zs)))) (same_field c k i t f fs l p left ∙ e) ∙ ap (λ x. and_then x (λ zs. good (z ∷ zs))) on
in_cuts (at_fault {n} {at} {m} {o} {rest} {g} {t} {ts} {x} c e) k i [] l p left long few = absurd (omega arith)
in_cuts (at_fault {n} {at} {m} {o} {rest} {g} {t} {ts} {x} c e) k i (f ∷ fs) l p left long few =
    ap (λ y. and_then y (λ z. and_then (check_fields k (suc i) ts fs) (λ zs. good (z ∷ zs)))) (same_field c k i t f fs l p left ∙ e)

-- the fields after the first
pub after_letter : {k at : ℕ} {rest : Bytes} {r : Checked (List ℤ)} (ts : List Kind) → Cuts k at rest ts r → length ts ≤ 98 → (fs : List Bytes) → Left rest fs → at ≡ 2 → length fs ≡ length ts → check_fields k 2 ts fs ≡ r
after_letter {k} ts cuts few fs left p long = in_cuts cuts k 2 fs refl p left long (omega arith)
