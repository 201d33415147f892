-- Rows of the tables, and what a write to one leaves.
use Rattle.std.proofs.Common.{◌≡◌, ℕ, ◌+◌, ◌-◌, ◌*◌, ◌<◌, ◌≤◌, ◌≢◌, List, [], ◌++◌, length, get_or, take, drop, set, sym, refl, ap, ◌∙◌, subst, ⊎_elim, mul-le-mul_right, add-mul, one-mul, eq-or-lt_of_le, arith, below_more}
use Rattle.std.proofs.lemmas.List.{get_or-set_same, get_or-set_other, drop-drop, take_at, drop_at, length-take, length-take-le, length-drop, take-append-drop, drop-append-le, drop_all, length-append, append-nil}
use borrow.Rule.Slice.PartMut.{put_mid}
use Rattle.model.specs.Model.{Model}
use Rattle.model.specs.Visits.{visit_after}
use Rattle.criteria.specs.Criteria.{Ops}
use Rattle.planning.specs.Tables.{row_of, Entry, AsAsked, Closed, RowsWritten}

-- one entry more of a row
pub entries_more : {V : Type 0} (P : ℕ → ℕ → V → Type 0) (d : V) (k : ℕ) (vs vs' : List V) (rs rs' : List ℕ) (r : ℕ) (v : V) → k < length vs → k < length rs →
    vs' ≡ set vs k v → rs' ≡ set rs k r → P k r v → ((s : ℕ) → s < k → P s (get_or rs s 0) (get_or vs s d)) → (s : ℕ) → s < k + 1 → P s (get_or rs' s 0) (get_or vs' s d)
entries_more P d k vs vs' rs rs' r v a b e f here below =
    subst (λ xs. (s : ℕ) → s < k + 1 → P s (get_or rs' s 0) (get_or xs s d)) (sym e)
    (subst (λ ys. (s : ℕ) → s < k + 1 → P s (get_or ys s 0) (get_or (set vs k v) s d)) (sym f)
    (below_more (λ s. P s (get_or (set rs k r) s 0) (get_or (set vs k v) s d)) k
    (λ s h. let ne : s ≢ k = omega arith in
    subst (λ y. P s y (get_or (set vs k v) s d)) (sym (get_or-set_other rs k s r 0 ne)) (subst (λ x. P s (get_or rs s 0) x) (sym (get_or-set_other vs k s v d ne)) (below s h)))
    (subst (λ y. P k y (get_or (set vs k v) k d)) (sym (get_or-set_same rs k r 0 b)) (subst (λ x. P k r x) (sym (get_or-set_same vs k v d a)) here))))

pub next_row : (n c : ℕ) → (n + 1) * c ≡ n * c + c
next_row n c = omega (arith, add-mul n 1 c, one-mul c)

-- a table with room for H rows has room for the row n
pub row_within : (n H c long : ℕ) → n < H → H * c ≤ long → (n + 1) * c ≤ long
row_within n H c long l room = let on : n + 1 ≤ H = omega arith in omega (arith, mul-le-mul_right c on)

-- what stands from k on stays, so what stands from a later place on does
kept_drop : {X : Type 0} (k i : ℕ) (xs ys : List X) → k ≤ i → drop k xs ≡ drop k ys → drop i xs ≡ drop i ys
kept_drop k i xs ys h e =
    let at_i : k + (i - k) ≡ i = omega arith in
    let far : (zs : List _) → drop (i - k) (drop k zs) ≡ drop i zs = λ zs. drop-drop (i - k) k zs ∙ ap (λ x. drop x zs) at_i in
    sym (far xs) ∙ ap (drop (i - k)) e ∙ far ys

-- a table with another row n, from that row on
abbrev pub Replaced : {X : Type 0} → (n c : ℕ) → (xs row xs' : List X) → Type 0
Replaced n c xs row xs' = (length row ≡ c) × (drop (n * c) xs' ≡ row ++ drop ((n + 1) * c) xs)

module _ {X : Type 0} (n c : ℕ) (xs row xs' : List X) where
  row_is : Replaced n c xs row xs' → take c (drop (n * c) xs') ≡ row
  row_is (long, e) = ap (take c) e ∙ take_at row (drop ((n + 1) * c) xs) c long

  rest_is : Replaced n c xs row xs' → drop ((n + 1) * c) xs' ≡ drop ((n + 1) * c) xs
  rest_is (long, e) = ap (λ i. drop i xs') (next_row n c) ∙ sym (drop-drop c (n * c) xs') ∙ ap (drop c) e ∙ drop_at row (drop ((n + 1) * c) xs) c long

-- the row n as the code reads it, which has c' for c
pub row_stays : {X : Type 0} (n c c' k : ℕ) (xs : List X) → c' ≡ c → k ≡ c' → (n + 1) * c ≤ length xs → Replaced n c xs (take k (drop (n * c') xs)) xs
row_stays n c c' k xs e f room =
    let one : (n + 1) * c ≡ n * c + c = next_row n c in
    let rest = drop (n * c) xs in
    let long : length (take c rest) ≡ c = length-take-le c rest (omega (arith, length-drop (n * c) xs)) in
    let row : take k (drop (n * c') xs) ≡ take c rest = ap (λ i. take i (drop (n * c') xs)) (f ∙ e) ∙ ap (λ i. take c (drop (n * i) xs)) e in (
      ap length row ∙ long,
      sym (take-append-drop c rest) ∙ ap (λ ys. take c rest ++ ys) (drop-drop c (n * c) xs ∙ ap (λ i. drop i xs) (sym one)) ∙ ap (λ r. r ++ drop ((n + 1) * c) xs) (sym row),
    )

-- what is within the first of two lists is within both
below_append : {X : Type 0} (xs ys : List X) (i : ℕ) → i ≤ length xs → i ≤ length (xs ++ ys)
below_append xs ys i h = omega (arith, length-append xs ys)

-- a write to a part of a table, from there on
part_put : {X : Type 0} (a k : ℕ) (xs ys : List X) → a ≤ length xs → drop a (put_mid a k xs ys) ≡ ys ++ drop (a + k) xs
part_put a k xs ys room = drop_at (take a xs) _ a (length-take-le a xs room) ∙ ap (λ zs. ys ++ zs) (drop-drop k a xs)

-- a write to the row n
pub row_put : {X : Type 0} (n c c' k : ℕ) (xs row : List X) → c' ≡ c → k ≡ c' → (n + 1) * c ≤ length xs → length row ≡ c' → Replaced n c xs row (put_mid (n * c') k xs row)
row_put n c c' k xs row e f room long =
    let one : (n + 1) * c ≡ n * c + c = next_row n c in
    let far : n * c + k ≡ (n + 1) * c = omega arith in
    (long ∙ e, ap (λ x. drop (n * c) (put_mid (n * x) k xs row)) e ∙ part_put (n * c) k xs row (omega arith) ∙ ap (λ i. row ++ drop i xs) far)

-- a write to the row n, the last of the front of a table
pub last_put : {X : Type 0} (n c c' k : ℕ) (xs front back row : List X) → c' ≡ c → k ≡ c' → length front ≡ n * c' + c' → back ≡ drop (n * c' + c') xs → length row ≡ c' →
    Replaced n c xs row (put_mid (n * c') k front row ++ back)
last_put n c c' k xs front back row e f whole rest long =
    let one : (n + 1) * c ≡ n * c + c = next_row n c in
    let same : n * c' ≡ n * c = ap (λ x. n * x) e in
    let far : n * c' + c' ≡ (n + 1) * c = omega arith in
    let none : drop (n * c + k) front ≡ [] = drop_all (n * c + k) front (omega arith) in
    let low : n * c ≤ length front = omega arith in
    let put = put_mid (n * c) k front row in
    let high : n * c ≤ length put = below_append (take (n * c) front) _ (n * c) (omega (arith, length-take-le (n * c) front low)) in (
      long ∙ e,
      ap (λ x. drop (n * c) (put_mid (n * x) k front row ++ back)) e ∙ drop-append-le (n * c) put back high
          ∙ ap (λ ys. ys ++ back) (part_put (n * c) k front row low ∙ ap (λ ys. row ++ ys) none ∙ append-nil row)
          ∙ ap (λ ys. row ++ ys) (rest ∙ ap (λ i. drop i xs) far),
    )

module _ {V A : Type 0} (o : Ops V A) (m : Model) (E : Entry V) where
  asked_moved : (visit left : ℕ) (later later' vs vs' : List V) (rs rs' : List ℕ) → later' ≡ later → vs' ≡ vs → rs' ≡ rs → AsAsked o m E visit left later vs rs → AsAsked o m E visit left later' vs' rs'
  asked_moved visit left later later' vs vs' rs rs' p q r h =
      subst (λ x. AsAsked o m E visit left x vs' rs') (sym p) (subst (λ x. AsAsked o m E visit left later x rs') (sym q) (subst (λ x. AsAsked o m E visit left later vs x) (sym r) h))

  rows_more : (H n visit : ℕ) (later es vs row vs' : List V) (er rs names rs' : List ℕ) → n < H → visit ≡ visit_after n → later ≡ row_of m vs (n + 1) →
      Replaced n m.conditions vs row vs' → Replaced n m.conditions rs names rs' → AsAsked o m E visit (H - n) later row names →
      RowsWritten o m E H (n + 1) es vs er rs → RowsWritten o m E H n es vs' er rs'
  rows_more H n visit later es vs row vs' er rs names rs' below e f put_v put_r asked w = record {
    filled = record { closed = subst (Closed o m) (sym (row_same H below)) w.filled.closed; rows = rows' };
    values = kept_drop _ _ vs' vs (far (H + 1) (omega arith)) kv ∙ w.values;
    remedies = kept_drop _ _ rs' rs (far H below) kr ∙ w.remedies;
  }
    where
      c : ℕ
      c = m.conditions

      kv : drop ((n + 1) * m.conditions) vs' ≡ drop ((n + 1) * m.conditions) vs
      kv = rest_is n m.conditions vs row vs' put_v

      kr : drop ((n + 1) * m.conditions) rs' ≡ drop ((n + 1) * m.conditions) rs
      kr = rest_is n m.conditions rs names rs' put_r

      far : (k : ℕ) → n < k → (n + 1) * m.conditions ≤ k * m.conditions
      far k h = mul-le-mul_right m.conditions (omega arith)

      row_same : (k : ℕ) → n < k → row_of m vs' k ≡ row_of m vs k
      row_same k h = ap (take m.conditions) (kept_drop _ _ vs' vs (far k h) kv)

      rows' : (k : ℕ) → n ≤ k → k < H → AsAsked o m E (visit_after k) (H - k) (row_of m vs' (k + 1)) (row_of m vs' k) (row_of m rs' k)
      rows' k h y = ⊎_elim
          (λ e'. subst (λ x. AsAsked o m E (visit_after x) (H - x) (row_of m vs' (x + 1)) (row_of m vs' x) (row_of m rs' x)) e'
          (asked_moved (visit_after n) (H - n) later _ row _ names _ (row_same (n + 1) (omega arith) ∙ sym f) (row_is n m.conditions vs row vs' put_v) (row_is n m.conditions rs names rs' put_r)
          (subst (λ x. AsAsked o m E x (H - n) later row names) e asked)))
          (λ z. asked_moved (visit_after k) (H - k) _ _ _ _ _ _ (row_same (k + 1) (omega arith)) (row_same k z) (ap (take m.conditions) (kept_drop _ _ rs' rs (far k z) kr)) (w.filled.rows k (omega arith) y))
          (eq-or-lt_of_le h)

  -- before any row: the closing values are written
  pub rows_closed : (H c' k : ℕ) (vs row : List V) (rs : List ℕ) → c' ≡ m.conditions → k ≡ c' → (H + 1) * m.conditions ≤ length vs → length row ≡ length (take k (drop (H * c') vs)) → Closed o m row →
      RowsWritten o m E H H vs (put_mid (H * c') k vs row) rs rs
  rows_closed H c' k vs row rs e f room whole h =
      let one = next_row H m.conditions in
      let same : H * c' ≡ H * m.conditions = ap (λ x. H * x) e in
      let long : length row ≡ c' = omega (arith, simp (length-take, length-drop) at whole) in
      let put = row_put H m.conditions c' k vs row e f room long in
      record {
        filled = record { closed = subst (Closed o m) (sym (row_is H m.conditions vs row _ put)) h; rows = λ n a b. absurd (never n a b) };
        values = rest_is H m.conditions vs row _ put;
        remedies = refl;
      }
    where
      never : (n : ℕ) → H ≤ n → n < H → ⊥
      never n a b = omega arith

  -- one row more, from the back: the last of the front of the table of values
  pub row_written : (H p c' k : ℕ) (es vs front back row : List V) (er rs names rs' : List ℕ) → 0 < p → p ≤ H → c' ≡ m.conditions → k ≡ c' →
      length front ≡ (p - 1) * c' + c' → back ≡ drop ((p - 1) * c' + c') vs → length row ≡ c' →
      Replaced (p - 1) m.conditions rs names rs' → AsAsked o m E (visit_after (p - 1)) (H - (p - 1)) (take m.conditions back) row names →
      RowsWritten o m E H p es vs er rs → RowsWritten o m E H (p - 1) es (put_mid ((p - 1) * c') k front row ++ back) er rs'
  row_written H p c' k es vs front back row er rs names rs' some low e f whole rest long put asked w =
      let n : ℕ = p - 1 in
      let one : p ≡ n + 1 = omega arith in
      let later : take m.conditions back ≡ row_of m vs (n + 1) = ap (take m.conditions) (rest ∙ ap (λ x. drop (n * x + x) vs) e ∙ ap (λ i. drop i vs) (sym (next_row n m.conditions))) in
      rows_more H n (visit_after n) (take m.conditions back) es vs row _ er rs names rs' (omega arith) refl later (last_put n m.conditions c' k vs front back row e f whole rest long) put asked
      (subst (λ x. RowsWritten o m E H x es vs er rs) one w)
