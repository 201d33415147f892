-- One row of the mean under the number limit: nothing in it is held.
use Rattle.std.proofs.Common.{◌≡◌, ℕ, zero, suc, ◌+◌, ◌-◌, ◌*◌, ◌^◌, ◌<◌, ◌≤◌, Bool, true, false, cond, ltb, ℤ, pos, ◌+ℤ◌, ◌*ℤ◌, nat_abs, sym, refl, ap, ◌∙◌, subst, le_trans, mul-le-mul_right, mul-le-mul_left, arith}
use lib.IntN.{zero-*ℤ, +ℤ_idr}
use Rattle.std.proofs.lemmas.Bool.{ltb-true, ltb-false}
use Rattle.model.specs.Model.{Model, weight}
use Rattle.criteria.specs.Policies.{entered}
use Rattle.criteria.specs.Mean.{hold, mean}
use Rattle.criteria.specs.Expected.{below, Unheld}
use Rattle.criteria.specs.Ints.{abs_times, abs_sum, held}
use Rattle.criteria.proofs.Sums.{weight_le}
use Rattle.criteria.proofs.Chances.{term}

-- the five results of an entry are small, with q for the power
abbrev Small : (q share : ℕ) (amount later account : ℤ) → Type 0
Small q share amount later account = (q ≤ 2 ^ 62) × (nat_abs (pos q *ℤ amount) ≤ 2 ^ 62) × (nat_abs (pos q *ℤ amount +ℤ later) ≤ 2 ^ 62) × (nat_abs (pos share *ℤ (pos q *ℤ amount +ℤ later)) ≤ 2 ^ 62) × (nat_abs (account +ℤ pos share *ℤ (pos q *ℤ amount +ℤ later)) ≤ 2 ^ 62)

small_unheld : (left parts share : ℕ) (amount later account : ℤ) → Small (parts ^ (left - 1)) share amount later account → Unheld left parts share amount later account
small_unheld left parts share amount later account (a, b, c, d, e) =
    record {
      power = held (pos (parts ^ (left - 1))) a;
      scaled = held (pos (parts ^ (left - 1)) *ℤ amount) b;
      onto_later = held (pos (parts ^ (left - 1)) *ℤ amount +ℤ later) c;
      shared = held (pos share *ℤ (pos (parts ^ (left - 1)) *ℤ amount +ℤ later)) d;
      summed = held (account +ℤ pos share *ℤ (pos (parts ^ (left - 1)) *ℤ amount +ℤ later)) e;
    }

unheld_exact : (left parts share : ℕ) (amount later account : ℤ) → Unheld left parts share amount later account → mean.enter left parts share amount later account ≡ account +ℤ pos share *ℤ (pos (parts ^ (left - 1)) *ℤ amount +ℤ later)
unheld_exact left parts share amount later account u =
    ap (λ z. hold (account +ℤ hold (pos share *ℤ hold (hold (z *ℤ amount) +ℤ later)))) u.power
    ∙ ap (λ z. hold (account +ℤ hold (pos share *ℤ hold (z +ℤ later)))) u.scaled
    ∙ ap (λ z. hold (account +ℤ hold (pos share *ℤ z))) u.onto_later
    ∙ ap (λ z. hold (account +ℤ z)) u.shared
    ∙ u.summed

shared_size : (share most : ℕ) (z : ℤ) → (0 < share → nat_abs z ≤ most) → nat_abs (pos share *ℤ z) ≤ share * most
shared_size share most z h = rw (abs_times (pos share) z) (go share h)
  where
    go : (n : ℕ) → (0 < n → nat_abs z ≤ most) → n * nat_abs z ≤ n * most
    go zero h = omega arith
    go (suc n) h = mul-le-mul_left (suc n) (h (omega arith))

sizes : (q k most parts : ℕ) → 1 ≤ most → 1 ≤ parts → parts * (q * suc (suc k) * most) ≤ 2 ^ 62 → (q ≤ 2 ^ 62) × (q * most ≤ 2 ^ 62) × (q * suc (suc k) * most ≤ 2 ^ 62)
sizes q k most parts a b h =
    let c : 1 * (q * suc (suc k) * most) ≤ parts * (q * suc (suc k) * most) = mul-le-mul_right (q * suc (suc k) * most) b in
    let d : q * 1 ≤ q * most = mul-le-mul_left q a in
    let e : q * most ≤ 2 ^ 62 = omega arith in
    (omega arith, e, omega arith)

-- a row with k visits after it, the values that follow, and a bound of the amounts and worths
module _ (m : Model) (n s r k : ℕ) (later : ℕ → ℤ) (most : ℕ) where
  abbrev size : ℕ
  size = m.parts ^ k * suc (suc k) * most

  -- what the number limit comes to in it
  pub record Row : Type 0 where
    pub some : 1 ≤ most
    pub some_parts : 1 ≤ m.parts
    pub amounts : (j : ℕ) → 0 < m.share n s r j → nat_abs (m.amount n s r j) ≤ most
    pub laters : (j : ℕ) → j < m.conditions → nat_abs (later j) ≤ m.parts ^ k * suc k * most
    pub even : weight m n s r m.conditions ≡ m.parts
    pub fits : m.parts * size ≤ 2 ^ 62

  module _ (row : Row) where
    amount_size : (j : ℕ) → 0 < m.share n s r j → nat_abs (pos (m.parts ^ k) *ℤ m.amount n s r j) ≤ m.parts ^ k * most
    amount_size j l = rw (abs_times (pos (m.parts ^ k)) (m.amount n s r j)) (mul-le-mul_left (m.parts ^ k) (row.amounts j l))

    inner_size : (j : ℕ) → j < m.conditions → 0 < m.share n s r j → nat_abs (pos (m.parts ^ k) *ℤ m.amount n s r j +ℤ later j) ≤ size
    inner_size j i l =
        let a = amount_size j l in
        let b = row.laters j i in
        let c = abs_sum (pos (m.parts ^ k) *ℤ m.amount n s r j) (later j) in
        omega arith

    term_size : (j : ℕ) → j < m.conditions → nat_abs (term m n s r k later j) ≤ m.share n s r j * size
    term_size j i = shared_size (m.share n s r j) size _ (inner_size j i)

    pub sum_size : (j : ℕ) → j ≤ m.conditions → nat_abs (below j (term m n s r k later)) ≤ weight m n s r j * size
    sum_size zero l = omega arith
    sum_size (suc j) l = go (weight m n s r j) (m.share n s r j) size (below j (term m n s r k later)) (term m n s r k later j) (sum_size j (omega arith)) (term_size j l)
      where
        go : (a b c : ℕ) (x y : ℤ) → nat_abs x ≤ a * c → nat_abs y ≤ b * c → nat_abs (x +ℤ y) ≤ (a + b) * c
        go a b c x y g h = omega (arith, abs_sum x y)

    row_fits : (j : ℕ) → j ≤ m.conditions → weight m n s r j * size ≤ 2 ^ 62
    row_fits j l = let a : weight m n s r j ≤ m.parts = omega (arith, weight_le m n s r j m.conditions l, row.even) in le_trans (mul-le-mul_right size a) row.fits

    share_fits : (j : ℕ) → j < m.conditions → m.share n s r j * size ≤ 2 ^ 62
    share_fits j l = let a : m.share n s r j ≤ weight m n s r (suc j) = omega arith in le_trans (mul-le-mul_right size a) (row_fits (suc j) l)

    pub row_unheld : (j : ℕ) → j < m.conditions → 0 < m.share n s r j → (account : ℤ) → account ≡ below j (term m n s r k later) → Unheld (suc k) m.parts (m.share n s r j) (m.amount n s r j) (later j) account
    row_unheld j l some account e =
        let all = sizes (m.parts ^ k) k most m.parts row.some row.some_parts row.fits in
        let less : k ≡ suc k - 1 = omega arith in
        let summed : nat_abs (below j (term m n s r k later) +ℤ term m n s r k later j) ≤ 2 ^ 62 = le_trans (sum_size (suc j) l) (row_fits (suc j) l) in
        let small : Small (m.parts ^ k) (m.share n s r j) (m.amount n s r j) (later j) (below j (term m n s r k later)) =
        (all.0, le_trans (amount_size j some) all.1, le_trans (inner_size j l some) all.2, le_trans (term_size j l) (share_fits j l), summed) in
        small_unheld (suc k) m.parts (m.share n s r j) (m.amount n s r j) (later j) account (subst (λ (x : ℕ). Small (m.parts ^ x) (m.share n s r j) (m.amount n s r j) (later j) account) less (subst (Small (m.parts ^ k) (m.share n s r j) (m.amount n s r j) (later j)) (sym e) small))

    pub row_exact : (j : ℕ) → j ≤ m.conditions → entered mean m n (suc k) s r later j ≡ below j (term m n s r k later)
    row_exact zero l = refl
    row_exact (suc j) l = go (entered mean m n (suc k) s r later j) (row_exact j (omega arith)) (ltb 0 (m.share n s r j)) refl
      where
        go : (account : ℤ) → account ≡ below j (term m n s r k later) → (t : Bool) → ltb 0 (m.share n s r j) ≡ t → cond t (mean.enter (suc k) m.parts (m.share n s r j) (m.amount n s r j) (later j) account) account ≡ below j (term m n s r k later) +ℤ term m n s r k later j
        go account ih true e =
            let less : suc k - 1 ≡ k = omega arith in
            unheld_exact (suc k) m.parts (m.share n s r j) (m.amount n s r j) (later j) account (row_unheld j l (ltb-true 0 (m.share n s r j) e) account ih)
            ∙ ap (λ (x : ℕ). account +ℤ pos (m.share n s r j) *ℤ (pos (m.parts ^ x) *ℤ m.amount n s r j +ℤ later j)) less
            ∙ ap (λ z. z +ℤ term m n s r k later j) ih
        go account ih false e =
            let none : m.share n s r j ≡ 0 = omega (arith, ltb-false 0 (m.share n s r j) e) in
            let gone : term m n s r k later j ≡ pos 0 = ap (λ x. pos x *ℤ (pos (m.parts ^ k) *ℤ m.amount n s r j +ℤ later j)) none ∙ zero-*ℤ (pos (m.parts ^ k) *ℤ m.amount n s r j +ℤ later j) in
            ih ∙ sym (ap (λ x. below j (term m n s r k later) +ℤ x) gone ∙ +ℤ_idr (below j (term m n s r k later)))
