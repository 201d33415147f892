-- The mean is the expected total, and nothing in it is held.
use Rattle.std.proofs.Common.{◌≡◌, ℕ, zero, suc, ◌+◌, ◌*◌, ◌^◌, ◌<◌, ◌≤◌, T, length, ℤ, pos, nat_abs, sym, ap, ◌∙◌, subst, le_trans, mul-le-mul_right, mul-le-mul, arith}
use native.Mathlib.Nat.{pow-succ', pow-zero, pow-le-pow_right}
use Rattle.std.proofs.lemmas.Int.{ints}
use Rattle.model.specs.Model.{Model, offers}
use Rattle.model.specs.Visits.{Even, Bounds, WithinLimit}
use Rattle.criteria.specs.Policies.{History, next_visit, Within, Choice, Policy, OffersItsOwn, onward, value}
use Rattle.criteria.specs.Mean.{mean}
use Rattle.criteria.specs.Expected.{expected, MeanIsExpected, NoMeanResultIsHeld}
use Rattle.criteria.specs.Ints.{abs_times}
use Rattle.criteria.proofs.Sums.{below_same}
use Rattle.criteria.proofs.Histories.{place_at, onward_within}
use Rattle.criteria.proofs.Chances.{term, expected_step}
use Rattle.criteria.proofs.Rows.{Row, sum_size, row_unheld, row_exact}

limit : (parts visits k most : ℕ) → 1 ≤ parts → suc k ≤ visits → WithinLimit parts visits most → parts * (parts ^ k * suc (suc k) * most) ≤ 2 ^ 62
limit parts visits k most low l h =
    let a : suc (suc k) ≤ visits + 1 = omega arith in
    let b : parts ^ suc k * suc (suc k) * most ≤ parts ^ visits * (visits + 1) * most = mul-le-mul_right most (mul-le-mul (pow-le-pow_right low l) a) in
    let c = rw (pow-succ' parts k) at b in
    omega arith

module _ (m : Model) (visits most : ℕ) (p : Choice) (own : OffersItsOwn (offers m)) (some_parts : 1 ≤ m.parts) (even : Even m visits) (small : Bounds m visits most) (fits : WithinLimit m.parts visits most) (policy : Policy (offers m) visits p) where
  -- the row of any offered remedy
  row_at : (k : ℕ) (h : History) (s r : ℕ) (later : ℕ → ℤ) → length h + suc k ≤ visits → s < m.conditions → T (m.offered (next_visit h) s r) → ((j : ℕ) → j < m.conditions → nat_abs (later j) ≤ m.parts ^ k * suc k * most) → Row m (next_visit h) s r k later most
  row_at k h s r later l i here laters =
      let place = place_at (offers m) visits k h s l i in
      record {
        some = small.one;
        some_parts = some_parts;
        amounts = λ j. small.amounts (next_visit h) s r j place here;
        laters = laters;
        even = even (next_visit h) s r place here;
        fits = limit m.parts visits k most some_parts (omega arith) fits;
      }

  expected_size : (k : ℕ) (h : History) (s : ℕ) → length h + k ≤ visits → Within (offers m) h → s < m.conditions → nat_abs (expected m p k h s) ≤ m.parts ^ k * suc k * most
  expected_size zero h s l w i = rw (pow-zero m.parts, abs_times (pos 1) (m.worth s)) (omega (arith, small.worths s i))
  expected_size (suc k) h s l w i =
      let on = onward_within (offers m) visits p own policy k h s l w i in
      let later : ℕ → ℤ = expected m p k (onward p h s) in
      let row = row_at k h s (p h s) later l i on.2 (λ j jl. expected_size k (onward p h s) j on.0 on.1 jl) in
      let sized = sum_size m (next_visit h) s (p h s) k later most row m.conditions (omega arith) in
      rw (expected_step m visits p own even policy k h s l w i, pow-succ' m.parts k) (le_trans (rw row.even at sized) (omega arith))

  mean_exact : (k : ℕ) (h : History) (s : ℕ) → length h + k ≤ visits → Within (offers m) h → s < m.conditions → value mean m p k h s ≡ expected m p k h s
  mean_exact zero h s l w i = omega (arith, ints)
  mean_exact (suc k) h s l w i =
      let on = onward_within (offers m) visits p own policy k h s l w i in
      let later : ℕ → ℤ = λ j. value mean m p k (onward p h s) j in
      let same : (j : ℕ) → j < m.conditions → later j ≡ expected m p k (onward p h s) j = λ j jl. mean_exact k (onward p h s) j on.0 on.1 jl in
      let row = row_at k h s (p h s) later l i on.2 (λ j jl. subst (λ z. nat_abs z ≤ m.parts ^ k * suc k * most) (sym (same j jl)) (expected_size k (onward p h s) j on.0 on.1 jl)) in
      row_exact m (next_visit h) s (p h s) k later most row m.conditions (omega arith)
      ∙ below_same m.conditions _ _ (λ j jl. ap (λ z. term m (next_visit h) s (p h s) k (λ _. z) j) (same j jl))
      ∙ sym (expected_step m visits p own even policy k h s l w i)

pub mean_is_expected : MeanIsExpected
mean_is_expected m visits p own some_parts even (most, small, fits) policy = mean_exact m visits most p own some_parts even small fits policy

pub no_mean_result_is_held : NoMeanResultIsHeld
no_mean_result_is_held m visits p own some_parts even (most, small, fits) policy h g k s r j l e w i here jl some =
    let gl : length g + k ≤ visits = omega arith in
    let later : ℕ → ℤ = λ x. value mean m p k g x in
    let laters : (x : ℕ) → x < m.conditions → nat_abs (later x) ≤ m.parts ^ k * suc k * most =
    λ x xl. subst (λ z. nat_abs z ≤ m.parts ^ k * suc k * most) (sym (mean_exact m visits most p own some_parts even small fits policy k g x gl w xl)) (expected_size m visits most p own some_parts even small fits policy k g x gl w xl) in
    let row = row_at m visits most p own some_parts even small fits policy k h s r later l i here laters in
    row_unheld m (next_visit h) s r k later most row j jl some _ (row_exact m (next_visit h) s r k later most row j (omega arith))
