-- The floor is the least total of a possible course.
use Rattle.std.proofs.Common.{◌≡◌, ℕ, zero, suc, ◌+◌, ◌-◌, ◌*◌, ◌^◌, ◌<◌, ◌≤◌, Bool, true, false, cond, T, ltb, ◌⊎◌, List, [], ◌∷◌, length, ℤ, pos, negsuc, ◌+ℤ◌, nat_abs, ◌≤ℤ◌, refl, ap, ◌∙◌, subst, inl, inr, ⊎_elim, arith}
use lib.Signed.{lt_z, ≤ℤ_refl}
use Rattle.std.proofs.lemmas.Int.{ints, clamps}
use Rattle.std.proofs.lemmas.Bool.{ltb-true, ltb-false, cases_lt}
use Rattle.std.specs.Int.{int_min}
use Rattle.model.specs.Model.{Model, offers, Lawful, Money, weight}
use Rattle.model.specs.Visits.{Even}
use Rattle.criteria.specs.Policies.{History, next_visit, Within, Choice, Policy, onward, entered, value}
use Rattle.criteria.specs.Mean.{hold}
use Rattle.criteria.specs.Floor.{floor}
use Rattle.criteria.specs.Expected.{gain}
use Rattle.criteria.specs.Least.{Possible, Least, FloorIsLeast}
use Rattle.criteria.specs.Ints.{abs_sum, held}
use Rattle.criteria.proofs.Histories.{books_offer_their_own, place_at, onward_within}

min_left : (a b : ℤ) → int_min a b ≤ℤ a
min_left a b = omega (arith, ints, clamps)

min_right : (a b : ℤ) → int_min a b ≤ℤ b
min_right a b = omega (arith, ints, clamps)

≤ℤ_trans : (a b c : ℤ) → a ≤ℤ b → b ≤ℤ c → a ≤ℤ c
≤ℤ_trans a b c g h = omega (arith, ints)

min_either : (a b : ℤ) → (int_min a b ≡ a) ⊎ (int_min a b ≡ b)
min_either a b = elim (lt_z b a) as (λ t. (cond t b a ≡ a) ⊎ (cond t b a ≡ b)) [ true ↦ inr refl | false ↦ inl refl ]

min_first : (z : ℤ) → int_min (pos (2 ^ 63 - 1)) (hold z) ≡ hold z
min_first (pos n) = omega (arith, ints, clamps)
min_first (negsuc n) = omega (arith, ints, clamps)

-- one row, with the values that follow
module _ (m : Model) (n left s r : ℕ) (later : ℕ → ℤ) where
  abbrev total : ℕ → ℤ
  total j = hold (m.amount n s r j +ℤ later j)

  row_low : (j i : ℕ) → i < j → 0 < m.share n s r i → entered floor m n left s r later j ≤ℤ total i
  row_low zero i l some = absurd (omega arith)
  row_low (suc j) i l some = go (entered floor m n left s r later j) (λ a. row_low j i a some) (ltb 0 (m.share n s r j)) refl (cases_lt i j)
    where
      go : (x : ℤ) → (i < j → x ≤ℤ total i) → (t : Bool) → ltb 0 (m.share n s r j) ≡ t → (i < j) ⊎ (j ≤ i) → cond t (int_min x (total j)) x ≤ℤ total i
      go x ih true e (inl a) = ≤ℤ_trans _ x _ (min_left x (total j)) (ih a)
      go x ih true e (inr b) = let same : j ≡ i = omega arith in subst (λ (y : ℕ). int_min x (total j) ≤ℤ total y) same (min_right x (total j))
      go x ih false e (inl a) = ih a
      go x ih false e (inr b) =
          let same : i ≡ j = omega arith in
          let here = subst (λ (y : ℕ). 0 < m.share n s r y) same some in
          absurd (omega (arith, ltb-false 0 (m.share n s r j) e))

  row_hit : (j : ℕ) → ((weight m n s r j ≡ 0) × (entered floor m n left s r later j ≡ pos (2 ^ 63 - 1))) ⊎ ((i : ℕ) × (i < j) × (0 < m.share n s r i) × (entered floor m n left s r later j ≡ total i))
  row_hit zero = inl (refl, refl)
  row_hit (suc j) = go (entered floor m n left s r later j) (row_hit j) (ltb 0 (m.share n s r j)) refl
    where
      go : (x : ℤ) → ((weight m n s r j ≡ 0) × (x ≡ pos (2 ^ 63 - 1))) ⊎ ((i : ℕ) × (i < j) × (0 < m.share n s r i) × (x ≡ total i)) → (t : Bool) → ltb 0 (m.share n s r j) ≡ t → ((weight m n s r j + m.share n s r j ≡ 0) × (cond t (int_min x (total j)) x ≡ pos (2 ^ 63 - 1))) ⊎ ((i : ℕ) × (i < suc j) × (0 < m.share n s r i) × (cond t (int_min x (total j)) x ≡ total i))
      go x before true e = inr (⊎_elim
          (λ b. (j, omega arith, ltb-true 0 (m.share n s r j) e, ap (λ y. int_min y (total j)) b.1 ∙ min_first (m.amount n s r j +ℤ later j)))
          (λ b. ⊎_elim (λ f. (b.0, omega arith, b.2, f ∙ b.3)) (λ f. (j, omega arith, ltb-true 0 (m.share n s r j) e, f)) (min_either x (total j)))
          before)
      go x before false e = ⊎_elim
          (λ b. inl (omega (arith, ltb-false 0 (m.share n s r j) e), b.1))
          (λ b. inr (b.0, omega arith, b.2, b.3))
          before

pub money_size : (z : ℤ) → Money z → nat_abs z ≤ 10 ^ 9
money_size z h = let a = h.low in let b = h.high in omega (arith, ints)

gain_size : (m : Model) (p : Choice) → Lawful m → (c : List ℕ) (h : History) (s : ℕ) → nat_abs (gain m p h s c) ≤ suc (length c) * 10 ^ 9
gain_size m p lawful [] h s = omega (arith, money_size (m.worth s) (lawful.worth_fits s))
gain_size m p lawful (j ∷ c) h s =
    let a = money_size (m.amount (next_visit h) s (p h s) j) (lawful.amount_fits (next_visit h) s (p h s) j) in
    let b = gain_size m p lawful c (onward p h s) j in
    omega (arith, abs_sum (m.amount (next_visit h) s (p h s) j) (gain m p (onward p h s) j c))

module _ (m : Model) (visits : ℕ) (p : Choice) (lawful : Lawful m) (even : Even m visits) (few : visits ≤ 48) (policy : Policy (offers m) visits p) where
  floor_least : (k : ℕ) (h : History) (s : ℕ) → length h + k ≤ visits → Within (offers m) h → s < m.conditions → Least m p k h s (value floor m p k h s)
  floor_least zero h s l w i = record { low = lows; hit = ([], refl, tt, refl) }
    where
      lows : (c : List ℕ) → length c ≡ 0 → Possible m p h s c → m.worth s ≤ℤ gain m p h s c
      lows [] e c = ≤ℤ_refl (m.worth s)
      lows (j ∷ c) e q = absurd (omega arith)
  floor_least (suc k) h s l w i = go (λ j jl. floor_least k (onward p h s) j on.0 on.1 jl)
    where
      on : (length (onward p h s) + k ≤ visits) × Within (offers m) (onward p h s) × T (m.offered (next_visit h) s (p h s))
      on = onward_within (offers m) visits p (books_offer_their_own m lawful) policy k h s l w i

      go : ((j : ℕ) → j < m.conditions → Least m p k (onward p h s) j (value floor m p k (onward p h s) j)) → Least m p (suc k) h s (value floor m p (suc k) h s)
      go ih = record { low = lows; hit = hits }
        where
          n : ℕ
          n = next_visit h

          later : ℕ → ℤ
          later j = value floor m p k (onward p h s) j

          free : (j : ℕ) → j < m.conditions → hold (m.amount n s (p h s) j +ℤ later j) ≡ m.amount n s (p h s) j +ℤ later j
          free j jl =
              let found = (ih j jl).hit in
              let b = gain_size m p lawful found.0 (onward p h s) j in
              let a = money_size (m.amount n s (p h s) j) (lawful.amount_fits n s (p h s) j) in
              let d = ap nat_abs found.3 in
              held (m.amount n s (p h s) j +ℤ later j) (omega (arith, abs_sum (m.amount n s (p h s) j) (later j), found.1))

          lows : (c : List ℕ) → length c ≡ suc k → Possible m p h s c → value floor m p (suc k) h s ≤ℤ gain m p h s c
          lows [] e q = absurd (omega arith)
          lows (j ∷ c) e q =
              let a = row_low m n (suc k) s (p h s) later m.conditions j q.0 q.1 in
              let b = (ih j q.0).low c (omega arith) q.2 in
              let f = free j q.0 in
              omega (arith, ints)

          hits : (c : List ℕ) × (length c ≡ suc k) × Possible m p h s c × (value floor m p (suc k) h s ≡ gain m p h s c)
          hits = ⊎_elim
              (λ b. absurd (omega (arith, even n s (p h s) (place_at (offers m) visits k h s l i) on.2, lawful.some_parts, b.0)))
              (λ b. let found = (ih b.0 b.1).hit in (b.0 ∷ found.0, ap suc found.1, (b.1, b.2, found.2), b.3 ∙ free b.0 b.1 ∙ ap (λ x. m.amount n s (p h s) b.0 +ℤ x) found.3))
              (row_hit m n (suc k) s (p h s) later m.conditions)

pub floor_is_least : FloorIsLeast
floor_is_least = floor_least
