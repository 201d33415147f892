-- Splitting undoes joining, and joining splitting.
use Rattle.std.proofs.Common.{◌≡◌, ℕ, eqb, List, [], ◌∷◌, ◌++◌, length, get_or, sym, refl, ap, ◌∙◌, arith, length-append}
use lib.Seq.{get_or-append_seam}
use Rattle.std.specs.List.{All}
use Rattle.std.proofs.lemmas.List.Elements.{All-nil, All-cons, All-head, All-tail, All-append, All-from_get_or}
use Rattle.std.proofs.lemmas.Bool.{eqb-true, eqb-false, eq-eqb, ne_eqb, cond_both, cond-true, cond-false}
use Rattle.fields.specs.Numerals.{Bytes}
use Rattle.fields.specs.Lines.{joined, split, Without, Starts}

-- another byte than this one
abbrev pub Other : ℕ → ℕ → Type 0
Other c x = ¬ (x ≡ c)

pub split_line : (c : ℕ) (l bs : Bytes) → All (Other c) l → split c (l ++ (c ∷ bs)) ≡ (l, (split c bs).0 ∷ (split c bs).1)
split_line c [] bs a = cond-true (eqb c c) _ _ (eq-eqb c c refl)
split_line c (x ∷ l) bs a = cond-false (eqb x c) _ _ (ne_eqb x c (All-head (Other c) x l a)) ∙ ap (λ p. (x ∷ p.0, p.1)) (split_line c l bs (All-tail (Other c) x l a))

pub split_none : (c : ℕ) (l : Bytes) → All (Other c) l → split c l ≡ (l, [])
split_none c [] a = refl
split_none c (x ∷ l) a = cond-false (eqb x c) _ _ (ne_eqb x c (All-head (Other c) x l a)) ∙ ap (λ p. (x ∷ p.0, p.1)) (split_none c l (All-tail (Other c) x l a))

joined_cons : (c x : ℕ) (f : Bytes) (fs : List Bytes) → joined c (x ∷ f) fs ≡ x ∷ joined c f fs
joined_cons c x f [] = refl
joined_cons c x f (g ∷ gs) = refl

pub joined_split : (c : ℕ) (bs : Bytes) → joined c (split c bs).0 (split c bs).1 ≡ bs
joined_split c [] = refl
joined_split c (x ∷ xs) = cond_both (eqb x c) _ _ (λ (p : Bytes × List Bytes). joined c p.0 p.1 ≡ x ∷ xs) (λ e. let q = eqb-true x c e in let r = joined_split c xs in cc) (λ e. joined_cons c x (split c xs).0 (split c xs).1 ∙ ap (λ t. x ∷ t) (joined_split c xs))

pub split_joined : (c : ℕ) (f : Bytes) (fs : List Bytes) → All (Other c) f → All (All (Other c)) fs → split c (joined c f fs) ≡ (f, fs)
split_joined c f [] a b = split_none c f a
split_joined c f (g ∷ gs) a b = split_line c f (joined c g gs) a ∙ ap (λ p. (f, p.0 ∷ p.1)) (split_joined c g gs (All-head (All (Other c)) g gs b) (All-tail (All (Other c)) g gs b))

pub joined_all : (P : ℕ → Type 0) (c : ℕ) (f : Bytes) (fs : List Bytes) → P c → All P f → All (All P) fs → All P (joined c f fs)
joined_all P c f [] p a b = a
joined_all P c f (g ∷ gs) p a b = All-append P f (c ∷ joined c g gs) a (All-cons P c (joined c g gs) p (joined_all P c g gs p (All-head (All P) g gs b) (All-tail (All P) g gs b)))

split_each : (P : ℕ → Type 0) (c : ℕ) (bs : Bytes) → All P bs → All P (split c bs).0 × All (All P) (split c bs).1
split_each P c [] a = (All-nil P, All-nil (All P))
split_each P c (x ∷ bs) a = let r = split_each P c bs (All-tail P x bs a) in cond_both (eqb x c) _ _ (λ (p : Bytes × List Bytes). All P p.0 × All (All P) p.1) (λ e. (All-nil P, All-cons (All P) (split c bs).0 (split c bs).1 r.0 r.1)) (λ e. (All-cons P x (split c bs).0 (All-head P x bs a) r.0, r.1))

pub split_clear : (c : ℕ) (bs : Bytes) → All (Other c) (split c bs).0 × All (All (Other c)) (split c bs).1
split_clear c [] = (All-nil (Other c), All-nil (All (Other c)))
split_clear c (x ∷ bs) = let r = split_clear c bs in cond_both (eqb x c) _ _ (λ (p : Bytes × List Bytes). All (Other c) p.0 × All (All (Other c)) p.1) (λ e. (All-nil (Other c), All-cons (All (Other c)) (split c bs).0 (split c bs).1 r.0 r.1)) (λ e. (All-cons (Other c) x (split c bs).0 (eqb-false x c e) r.0, r.1))

-- bytes before a newline begin with the line of their parts
pub starts : (l onw : Bytes) → All (Other 10) l → Starts (l ++ (10 ∷ onw)) (split 9 l).0 (split 9 l).1
starts l onw a =
    let t = split_clear 9 l in let n = split_each (Other 10) 9 l a in
    record { more = onw; whole = ap (λ x. x ++ (10 ∷ onw)) (sym (joined_split 9 l)); no_tabs = λ i q j u. All-cons (All (Other 9)) (split 9 l).0 (split 9 l).1 t.0 t.1 i [] q j 0 u; no_newlines = λ i q j u. All-cons (All (Other 10)) (split 9 l).0 (split 9 l).1 n.0 n.1 i [] q j 0 u }

-- and the line that some bytes begin with is the part before their first newline, its fields the parts between tabs
pub started : (bs f : Bytes) (fs : List Bytes) → Starts bs f fs → All (Other 10) (joined 9 f fs) × (split 9 (joined 9 f fs) ≡ (f, fs))
started bs f fs s =
    let t : All (All (Other 9)) (f ∷ fs) = All-from_get_or (All (Other 9)) (f ∷ fs) [] (λ i q. All-from_get_or (Other 9) (get_or (f ∷ fs) i []) 0 (s.no_tabs i q)) in
    let n : All (All (Other 10)) (f ∷ fs) = All-from_get_or (All (Other 10)) (f ∷ fs) [] (λ i q. All-from_get_or (Other 10) (get_or (f ∷ fs) i []) 0 (s.no_newlines i q)) in
    (joined_all (Other 10) 9 f fs (λ q. omega arith) (All-head (All (Other 10)) f fs n) (All-tail (All (Other 10)) f fs n), split_joined 9 f fs (All-head (All (Other 9)) f fs t) (All-tail (All (Other 9)) f fs t))

-- one part before the first c
pub first_part : (c : ℕ) (l r xs ys : Bytes) → All (Other c) l → All (Other c) r → l ++ (c ∷ xs) ≡ r ++ (c ∷ ys) → l ≡ r
first_part c l r xs ys a b e = ap (λ p. p.0) (sym (split_line c l xs a) ∙ (ap (split c) e ∙ split_line c r ys b))

pub not_ended : (c : ℕ) (l xs : Bytes) → Without c (l ++ (c ∷ xs)) → ⊥
not_ended c l xs h = h (length l) (simp length-append (omega arith)) (get_or-append_seam l c xs 0)
