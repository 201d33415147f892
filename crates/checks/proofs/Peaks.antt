-- The greatest size in a book is a bound that is reached, and decides the number limit.
use Rattle.std.proofs.Common.{◌≡◌, ℕ, zero, suc, ◌+◌, ◌-◌, ◌*◌, ◌^◌, ◌<◌, ◌≤◌, max, Bool, true, false, cond, T, ltb, nat_abs, [], ◌∷◌, ◌++◌, fold, filter, append-nil, map-id, MatchBool, sym, refl, ap, ◌∙◌, subst, inl, inr, ⊎_elim, le_trans, mul-le-mul_left, add-one, arith}
use Rattle.std.specs.List.{range_with_len}
use Rattle.std.proofs.lemmas.Bool.{cases_lt, ltb-true, lt-ltb}
use Rattle.std.proofs.lemmas.List.FromFn.{map-range_with_len_more}
use Rattle.std.proofs.lemmas.List.Elements.{filter-append}
use Rattle.std.proofs.lemmas.List.Sums.{fold_push}
use Rattle.model.specs.Model.{Model, Lawful}
use Rattle.model.specs.Visits.{visit_after, Bounds, WithinLimit, Fits}
use Rattle.checks.specs.Limit.{AmountOfSize, Reached, Peak, most, largest_worth, largest_under, largest_in, largest_at, greatest, HasAPeak, FitsByThePeak}

peak_least : (m : Model) (H P Q : ℕ) → Peak m H P → Bounds m H Q → P ≤ Q
peak_least m H P Q top all = ⊎_elim
    (λ e. omega (arith, all.one))
    (λ x. ⊎_elim
    (λ b. omega (arith, all.worths b.0 b.1, b.2))
    (λ a. omega (arith, all.amounts a.visit a.condition a.remedy a.next a.place a.may_be_given a.may_come, a.sized))
    x)
    top.reached

pub fits_by_the_peak : FitsByThePeak
fits_by_the_peak m H P top = (
  (λ fits. le_trans (mul-le-mul_left (m.parts ^ H * (H + 1)) (peak_least m H P fits.0 top fits.1)) fits.2),
  (λ low. (P, top.bounds, low)),
)

-- what a test against the limit says of the book
pub fits_when : (m : Model) (H P parts : ℕ) (r : Bool) → Peak m H P → parts ≡ m.parts → MatchBool r (WithinLimit parts H P) (WithinLimit parts H P → ⊥) → MatchBool r (Fits m H) (Fits m H → ⊥)
fits_when m H P parts true top e low = (fits_by_the_peak m H P top).1 (subst (λ (x : ℕ). WithinLimit x H P) e low)
fits_when m H P parts false top e high = λ fits. high (subst (λ (x : ℕ). WithinLimit x H P) (sym e) ((fits_by_the_peak m H P top).0 fits))

one_longer : (n : ℕ) → range_with_len 0 (suc n) ≡ range_with_len 0 n ++ (n ∷ [])
one_longer n = ap (range_with_len 0) (sym (add-one n)) ∙ sym (map-id _) ∙ map-range_with_len_more (λ x. x) 0 n n (omega arith) ∙ ap (λ xs. xs ++ (n ∷ [])) (map-id _)

-- the largest of a chain over the numbers below n, or over those of them that pass a test
pub fold_is_most : (h : ℕ → ℕ) (n : ℕ) → fold (λ a x. max a (h x)) 0 (range_with_len 0 n) ≡ most n h
fold_is_most h zero = refl
fold_is_most h (suc n) = ap (fold (λ a x. max a (h x)) 0) (one_longer n) ∙ fold_push (λ a x. max a (h x)) 0 (range_with_len 0 n) n ∙ ap (λ x. max x (h n)) (fold_is_most h n)

pub filtered_is_most : (test : ℕ → Bool) (h : ℕ → ℕ) (n : ℕ) → fold (λ a x. max a (h x)) 0 (filter test (range_with_len 0 n)) ≡ most n (λ x. cond (test x) (h x) 0)
filtered_is_most test h zero = refl
filtered_is_most test h (suc n) = ap (λ xs. fold (λ a x. max a (h x)) 0 (filter test xs)) (one_longer n) ∙ ap (fold (λ a x. max a (h x)) 0) (filter-append test (range_with_len 0 n) (n ∷ [])) ∙ last (test n) (filtered_is_most test h n)
  where
    last : (b : Bool) → fold (λ a x. max a (h x)) 0 (filter test (range_with_len 0 n)) ≡ most n (λ x. cond (test x) (h x) 0) → fold (λ a x. max a (h x)) 0 (filter test (range_with_len 0 n) ++ cond b (n ∷ []) []) ≡ max (most n (λ x. cond (test x) (h x) 0)) (cond b (h n) 0)
    last true so = fold_push (λ a x. max a (h x)) 0 (filter test (range_with_len 0 n)) n ∙ ap (λ x. max x (h n)) so
    last false so =
        let none : most n (λ x. cond (test x) (h x) 0) ≡ max (most n (λ x. cond (test x) (h x) 0)) 0 = omega arith in
        ap (fold (λ a x. max a (h x)) 0) (append-nil (filter test (range_with_len 0 n))) ∙ so ∙ none

most_high : (n : ℕ) (f : ℕ → ℕ) (j : ℕ) → j < n → f j ≤ most n f
most_high zero f j l = absurd (omega arith)
most_high (suc n) f j l = ⊎_elim
    (λ a. let b = most_high n f j a in omega arith)
    (λ a. let e : n ≡ j = omega arith in subst (λ (x : ℕ). f x ≤ max (most n f) (f n)) e (right (most n f) (f n)))
    (cases_lt j n)
  where
    right : (a b : ℕ) → b ≤ max a b
    right a b = omega arith

most_hit : (n : ℕ) (f : ℕ → ℕ) (P : ℕ) → most n f ≡ P → 0 < P → (j : ℕ) × (j < n) × (f j ≡ P)
most_hit zero f P e l = absurd (omega arith)
most_hit (suc n) f P e l = ⊎_elim
    (λ a. (n, omega arith, omega arith))
    (λ a. let b = most_hit n f P (omega arith) l in (b.0, omega arith, b.2))
    (cases_lt (most n f) (f n))

-- a size behind its test
behind_high : (b : Bool) (z P : ℕ) → T b → cond b z 0 ≤ P → z ≤ P
behind_high true z P t h = h
behind_high false z P t h = absurd t

behind_hit : (b : Bool) (z P : ℕ) → cond b z 0 ≡ P → 0 < P → T b × (z ≡ P)
behind_hit true z P e l = (tt, e)
behind_hit false z P e l = absurd (omega arith)

above_none : (n : ℕ) → T (ltb 0 n) → 0 < n
above_none n t = go (ltb 0 n) refl t
  where
    go : (b : Bool) → ltb 0 n ≡ b → T b → 0 < n
    go true e t = ltb-true 0 n e
    go false e t = absurd t

module _ (m : Model) (H : ℕ) where
  peak_bounds : Lawful m → Bounds m H (greatest m H)
  peak_bounds lawful = record {
    one = one (largest_worth m) _;
    worths = λ s l. le_trans (most_high m.conditions (λ s. nat_abs (m.worth s)) s l) (left (largest_worth m) _);
    amounts = λ n s r j place here some.
        let whole : visit_after (n - 1) ≡ n = let a = place.from in omega arith in
        let past_in : n - 1 < H = let a = place.from in let b = place.to in omega arith in
        let high : largest_at m n ≤ greatest m H = subst (λ (x : ℕ). largest_at m x ≤ greatest m H) whole (le_trans (most_high H (λ past. largest_at m (visit_after past)) (n - 1) past_in) (right (largest_worth m) _)) in
        let in_place : cond (m.offered n s r) (largest_under m n s r) 0 ≤ greatest m H =
        le_trans (most_high m.remedies (λ r. cond (m.offered n s r) (largest_under m n s r) 0) r (lawful.offered_inside n s r here).some_remedy)
        (le_trans (most_high m.conditions (λ s. largest_in m n s) s place.condition) high) in
        let under : largest_under m n s r ≤ greatest m H = behind_high (m.offered n s r) _ _ here in_place in
        behind_high (ltb 0 (m.share n s r j)) _ _ (subst T (sym (lt-ltb 0 (m.share n s r j) some)) tt)
        (le_trans (most_high m.conditions (λ j. cond (ltb 0 (m.share n s r j)) (nat_abs (m.amount n s r j)) 0) j (lawful.share_inside n s r j some).1) under);
  }
    where
      one : (a b : ℕ) → 1 ≤ max (max a 1) b
      one a b = omega arith

      left : (a b : ℕ) → a ≤ max (max a 1) b
      left a b = omega arith

      right : (a b : ℕ) → b ≤ max (max a 1) b
      right a b = omega arith

  amount_hit : (P : ℕ) → most H (λ past. largest_at m (visit_after past)) ≡ P → 0 < P → AmountOfSize m H P
  amount_hit P e l =
      let a = most_hit H (λ past. largest_at m (visit_after past)) P e l in
      let n : ℕ = visit_after a.0 in
      let b = most_hit m.conditions (λ s. largest_in m n s) P a.2 l in
      let c = most_hit m.remedies (λ r. cond (m.offered n b.0 r) (largest_under m n b.0 r) 0) P b.2 l in
      let g = behind_hit (m.offered n b.0 c.0) (largest_under m n b.0 c.0) P c.2 l in
      let d = most_hit m.conditions (λ j. cond (ltb 0 (m.share n b.0 c.0 j)) (nat_abs (m.amount n b.0 c.0 j)) 0) P g.1 l in
      let k = behind_hit (ltb 0 (m.share n b.0 c.0 d.0)) (nat_abs (m.amount n b.0 c.0 d.0)) P d.2 l in
      let to : visit_after a.0 ≤ H = a.1 in
      record { visit = n; condition = b.0; remedy = c.0; next = d.0; place = record { from = omega arith; to = to; condition = b.1 }; may_be_given = g.0; may_come = above_none (m.share n b.0 c.0 d.0) k.0; sized = k.1 }

  peak_reached : Reached m H (greatest m H)
  peak_reached = go (largest_worth m) (most H (λ past. largest_at m (visit_after past))) (most_hit m.conditions (λ s. nat_abs (m.worth s))) amount_hit
    where
      go : (x y : ℕ) → ((P : ℕ) → x ≡ P → 0 < P → (s : ℕ) × (s < m.conditions) × (nat_abs (m.worth s) ≡ P)) → ((P : ℕ) → y ≡ P → 0 < P → AmountOfSize m H P) → Reached m H (max (max x 1) y)
      go x y worths amounts = ⊎_elim
          (λ a. inr (inr (amounts (max (max x 1) y) (omega arith) (omega arith))))
          (λ a. ⊎_elim
          (λ b. inr (inl (worths (max (max x 1) y) (omega arith) (omega arith))))
          (λ b. inl (omega arith))
          (cases_lt 1 x))
          (cases_lt (max x 1) y)

pub has_a_peak : HasAPeak
has_a_peak m H lawful = record { bounds = peak_bounds m H lawful; reached = peak_reached m H }
