-- A table book and the list book of its positive shares mean the same.
use Rattle.std.proofs.Common.{◌≡◌, ℕ, zero, suc, ◌<◌, ◌≤◌, Bool, true, false, cond, ◌&&◌, ◌||◌, ltb, List, [], ◌∷◌, ◌++◌, get_or, ℤ, pos, sym, refl, ap, ◌∙◌, ⊎_elim, arith}
use mathlib.Core.Path.{fun_ext}
use lib.Arith.{digits_lt}
use Rattle.std.specs.List.{All}
use Rattle.std.proofs.lemmas.Bool.{cond-true, cond-false, cases_lt}
use Rattle.std.proofs.lemmas.List.Elements.{All-nil, All-cons}
use Rattle.model.specs.Model.{offers}
use Rattle.books.specs.declared.record.Record.{Record}
use Rattle.books.specs.Alike.{inside, some_above, alike}
use Rattle.books.specs.Entries.{no_record}
use Rattle.books.specs.Lawfuls.{inside_so, outcome_inside}
use Rattle.books.specs.Listed.{about, listed}
use Rattle.books.specs.Tables.{spot}
use Rattle.books.proofs.Lookups.{about_not, about_from}
use Rattle.books.proofs.Turns.{all_turn}
use Rattle.books.specs.Kinds.{in_turn, positive, positive_records, KindsAgree}

-- none of the list is about these
abbrev Away : (s x j : ℕ) → List Record → Type 0
Away s x j = All (λ e. about e s x j ≡ false)

listed_after : (s x j : ℕ) (es ds : List Record) → Away s x j es → listed (es ++ ds) s x j ≡ listed ds s x j
listed_after s x j [] ds a = refl
listed_after s x j (e ∷ es) ds a = cond-false (about e s x j) e (listed (es ++ ds) s x j) (a 0 e (omega arith)) ∙ listed_after s x j es ds (λ k d l. a (suc k) d (omega arith))

listed_away : (s x j : ℕ) (es : List Record) → Away s x j es → listed es s x j ≡ no_record
listed_away s x j [] a = refl
listed_away s x j (e ∷ es) a = cond-false (about e s x j) e (listed es s x j) (a 0 e (omega arith)) ∙ listed_away s x j es (λ k d l. a (suc k) d (omega arith))

listed_before : (s x j : ℕ) (es ds : List Record) → Away s x j ds → listed (es ++ ds) s x j ≡ listed es s x j
listed_before s x j [] ds a = listed_away s x j ds a
listed_before s x j (e ∷ es) ds a = ap (cond (about e s x j) e) (listed_before s x j es ds a)

-- of lists in turn only the one at i may be about these
listed_turn : (s x j n i : ℕ) (f : ℕ → List Record) → i < n → ((k : ℕ) → (k ≡ i → ⊥) → Away s x j (f k)) → listed (in_turn n f) s x j ≡ listed (f i) s x j
listed_turn s x j zero i f l h = absurd (omega arith)
listed_turn s x j (suc n) i f l h =
    ⊎_elim
    (λ (b : i < n). listed_before s x j (in_turn n f) (f n) (h n (λ e. omega arith)) ∙ listed_turn s x j n i f b h)
    (λ (b : n ≤ i). let same : n ≡ i = omega arith in listed_after s x j (in_turn n f) (f n) (all_turn (λ e. about e s x j ≡ false) n f (λ k m. h k (λ e. omega arith))) ∙ ap (λ (k : ℕ). listed (f k) s x j) same)
    (cases_lt i n)

away_positive : (s x j s' x' j' n : ℕ) (z : ℤ) → ((s' ≡ s) × (x' ≡ x) × (j' ≡ j) → ⊥) → Away s x j (positive s' x' j' n z)
away_positive s x j s' x' j' zero z h = All-nil _
away_positive s x j s' x' j' (suc n) z h = let e : Record = record { condition = s'; remedy = x'; next = j'; share = suc n; amount = z } in All-cons (λ d. about d s x j ≡ false) e [] (about_not e s x j h) (All-nil _)

positive_share : (s x j n : ℕ) (z : ℤ) → (listed (positive s x j n z) s x j).share ≡ n
positive_share s x j zero z = refl
positive_share s x j (suc n) z =
    let e : Record = record { condition = s; remedy = x; next = j; share = suc n; amount = z } in
    ap (λ (f : Record). f.share) (cond-true (about e s x j) e no_record (about_from e s x j refl refl refl))

positive_amount : (s x j n : ℕ) (z : ℤ) → (n ≡ 0 → z ≡ pos 0) → (listed (positive s x j n z) s x j).amount ≡ z
positive_amount s x j zero z h = sym (h refl)
positive_amount s x j (suc n) z h =
    let e : Record = record { condition = s; remedy = x; next = j; share = suc n; amount = z } in
    ap (λ (f : Record). f.amount) (cond-true (about e s x j) e no_record (about_from e s x j refl refl refl))

-- the record of an outcome among those of the positive shares
found : (c r : ℕ) (shares : List ℕ) (amounts : List ℤ) (s x j : ℕ) → s < c → x < r → j < c → listed (positive_records c r shares amounts) s x j ≡ listed (positive s x j (get_or shares (spot c r s x j) 0) (get_or amounts (spot c r s x j) (pos 0))) s x j
found c r shares amounts s x j a b d =
    listed_turn s x j c s _ a (λ k n. all_turn (λ e. about e s x j ≡ false) r _ (λ x' m. all_turn (λ e. about e s x j ≡ false) c _ (λ j' q. away_positive s x j k x' j' _ _ (λ p. n p.0))))
    ∙ listed_turn s x j r x _ b (λ k n. all_turn (λ e. about e s x j ≡ false) c _ (λ j' q. away_positive s x j s k j' _ _ (λ p. n p.1)))
    ∙ listed_turn s x j c j _ d (λ k n. away_positive s x j s x k _ _ (λ p. n p.2))

same_arm : {A : Type 0} (b : Bool) (x y z : A) → (b ≡ true → x ≡ y) → cond b x z ≡ cond b y z
same_arm true x y z h = h refl
same_arm false x y z h = refl

same_and : (b x y : Bool) → (b ≡ true → x ≡ y) → (b && x) ≡ (b && y)
same_and true x y h = h refl
same_and false x y h = refl

same_above : (f g : ℕ → ℕ) (n : ℕ) → ((k : ℕ) → k < n → f k ≡ g k) → some_above f n ≡ some_above g n
same_above f g zero h = refl
same_above f g (suc n) h =
    ap (λ (b : Bool). b || ltb 0 (f n)) (same_above f g n (λ k l. h k (omega arith))) ∙ ap (λ (m : ℕ). some_above g n || ltb 0 m) (h n (omega arith))

-- only what is inside the sizes counts
alike_same : (c r parts : ℕ) (f g : ℕ → ℕ → ℕ → ℕ) (h k : ℕ → ℕ → ℕ → ℤ) (worth : ℕ → ℤ) → ((s x j : ℕ) → s < c → x < r → j < c → f s x j ≡ g s x j) → ((s x j : ℕ) → s < c → x < r → j < c → h s x j ≡ k s x j) → alike c r parts f h worth ≡ alike c r parts g k worth
alike_same c r parts f g h k worth shares amounts = λ i. record {
  conditions = c;
  remedies = r;
  parts = parts;
  offered = fun_ext (λ n. fun_ext (λ s. fun_ext (λ x. same_and (inside c r n s x) _ _ (λ t. let p = inside_so (offers (alike c r parts f h worth)) n s x t in same_above (f s x) (g s x) c (λ j l. shares s x j p.some_condition p.some_remedy l))))) i;
  share = fun_ext (λ n. fun_ext (λ s. fun_ext (λ x. fun_ext (λ j. same_arm (inside c r n s x && ltb j c) _ _ 0 (λ t. let p = outcome_inside (offers (alike c r parts f h worth)) n s x j t in shares s x j p.0.some_condition p.0.some_remedy p.1))))) i;
  amount = fun_ext (λ n. fun_ext (λ s. fun_ext (λ x. fun_ext (λ j. same_arm (inside c r n s x && ltb j c) _ _ (pos 0) (λ t. let p = outcome_inside (offers (alike c r parts f h worth)) n s x j t in amounts s x j p.0.some_condition p.0.some_remedy p.1))))) i;
  worth = λ s. cond (ltb s c) (worth s) (pos 0);
}

pub kinds_agree_lem : KindsAgree
kinds_agree_lem c r parts shares amounts worths zero_amounts =
    alike_same c r parts _ _ _ _ _
    (λ s x j a b d. ap (λ (f : Record). f.share) (found c r shares amounts s x j a b d) ∙ positive_share s x j _ _)
    (λ s x j a b d. ap (λ (f : Record). f.amount) (found c r shares amounts s x j a b d) ∙ positive_amount s x j _ _ (zero_amounts (spot c r s x j) (digits_lt (digits_lt a b) d)))
