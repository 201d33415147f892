-- Plans of closed books, decided by tests that compute.
use Rattle.std.proofs.Common.{◌≡◌, ℕ, zero, suc, ◌+◌, ◌-◌, ◌*◌, ◌^◌, ◌<◌, ◌≤◌, Bool, true, false, not, ◌&&◌, ◌||◌, T, ◌⊎◌, List, length, get_or, ℤ, ◌≤ℤ◌, Ok, Result, leb, ltb, sym, refl, subst, inl, inr, ⊎_elim, arith}
use Rattle.std.specs.Prelude.{int_le, ◌==◌}
use Rattle.std.proofs.lemmas.Bool.{leb-true, ltb-true, cases_lt}
use Rattle.std.proofs.lemmas.Bool.Decides.{nat_tests}
use Rattle.std.proofs.lemmas.Int.{ints}
use Rattle.std.proofs.Math.Facts.{and_yes}
use Rattle.model.specs.Passed.{is_true}
use Rattle.model.specs.Model.{Model, offers, Lawful, weight}
use Rattle.model.specs.Visits.{visit_after, Place, Before, Open, Even, Fits, SomeOffered}
use Rattle.model.specs.Tables.{KeptPast}
use Rattle.criteria.specs.Criteria.{Ops, Laws}
use Rattle.criteria.specs.Policies.{remedied}
use Rattle.checks.specs.Limit.{greatest}
use Rattle.checks.specs.Places.{FirstStuck}
use Rattle.checks.specs.Acceptance.{InOrder, PlanAccepted}
use Rattle.checks.proofs.Peaks.{fits_by_the_peak, has_a_peak}
use Rattle.checks.specs.declared.refusal.PlanRefusal.{PlanRefusal}
use Rattle.planning.specs.Tables.{at, row_of, Chosen, Filled}
use Rattle.planning.specs.Plans.{PlanAnswers}
use Rattle.planning.proofs.Plans.{policy_is, unbeaten_is, lowest_is, planned_values}
use Rattle.planning.proofs.Determined.{plans_are_determined}

-- a test holds of each number below n, or of one of them
abbrev pub every : ℕ → (ℕ → Bool) → Bool
every zero f = true
every (suc n) f = every n f && f n

abbrev pub some : ℕ → (ℕ → Bool) → Bool
some zero f = false
some (suc n) f = some n f || f n

pub every_of : (n : ℕ) (f : ℕ → Bool) → T (every n f) → (i : ℕ) → i < n → T (f i)
every_of zero f h i l = absurd (omega arith)
every_of (suc n) f h i l =
    let both = and_yes (every n f) (f n) h in
    ⊎_elim (λ a. every_of n f both.0 i a) (λ b. subst (λ x. T (f x)) (omega arith) both.1) (cases_lt i n)

either : (a b : Bool) → T (a || b) → T a ⊎ T b
either true b h = inl tt
either false b h = inr h

pub some_in : (n : ℕ) (f : ℕ → Bool) → T (some n f) → (i : ℕ) × T (f i)
some_in zero f h = absurd h
some_in (suc n) f h = ⊎_elim (λ a. some_in n f a) (λ b. (n, b)) (either (some n f) (f n) h)

-- where the first holds, so does the second
abbrev pub only_if : Bool → Bool → Bool
only_if a b = not a || b

pub then_so : (a b : Bool) → T (only_if a b) → T a → T b
then_so true b h t = h
then_so false b h t = absurd t

never : (a : Bool) → T (not a) → T a → ⊥
never true h t = h
never false h t = t

low_of : (a b : ℕ) → T (leb a b) → a ≤ b
low_of a b h = leb-true a b (is_true _ h)

module _ (m : Model) (H v w : ℕ) where
  abbrev pub order_test : Bool
  order_test = leb 1 H && leb H 48 && leb ((H + 1) * m.conditions) v && leb (H * m.conditions) w

  pub in_order : T order_test → InOrder (offers m) H v w
  in_order h =
      let all = and_yes _ (leb (H * m.conditions) w) h in
      let front = and_yes _ (leb ((H + 1) * m.conditions) v) all.0 in
      let ends = and_yes (leb 1 H) (leb H 48) front.0 in
      record { some = low_of _ _ ends.0; few = low_of _ _ ends.1; values_room = low_of _ _ front.1; remedies_room = low_of _ _ all.1 }

  abbrev pub open_test : Bool
  open_test = every H (λ n. every m.conditions (λ s. some m.remedies (λ r. m.offered (suc n) s r)))

  pub opens : T open_test → Open (offers m) H
  opens h zero s p = absurd (let l = p.from in omega arith)
  opens h (suc n) s p = some_in m.remedies _ (every_of m.conditions _ (every_of H _ h n (let l = p.to in omega arith)) s p.condition)

  abbrev pub even_test : Bool
  even_test = every H (λ n. every m.conditions (λ s. every m.remedies (λ r. only_if (m.offered (suc n) s r) (weight m (suc n) s r m.conditions == m.parts))))

  pub evens : Lawful m → T even_test → Even m H
  evens lawful h zero s r p t = absurd (let l = p.from in omega arith)
  evens lawful h (suc n) s r p t =
      let here = then_so _ _ (every_of m.remedies _ (every_of m.conditions _ (every_of H _ h n (let l = p.to in omega arith)) s p.condition) r (lawful.offered_inside (suc n) s r t).some_remedy) t in
      grind (arith, nat_tests, is_true _ here)

  abbrev pub limit_test : Bool
  limit_test = leb (m.parts ^ H * (H + 1) * greatest m H) (2 ^ 62)

  pub fits : Lawful m → T limit_test → Fits m H
  fits lawful h = (fits_by_the_peak m H (greatest m H) (has_a_peak m H lawful)).1 (low_of _ _ h)

  pub unfit : Lawful m → T (not limit_test) → Fits m H → ⊥
  unfit lawful h f =
      let low = (fits_by_the_peak m H (greatest m H) (has_a_peak m H lawful)).0 f in
      never limit_test h (subst T (sym (leb-of low)) tt)
    where
      leb-of : m.parts ^ H * (H + 1) * greatest m H ≤ 2 ^ 62 → limit_test ≡ true
      leb-of low = grind (arith, nat_tests)

  abbrev pub accept_test : Bool
  accept_test = order_test && (open_test && (even_test && limit_test))

  pub accepted : Lawful m → T accept_test → PlanAccepted m H v w
  accepted lawful h =
      let a = and_yes order_test _ h in
      let b = and_yes open_test _ a.1 in
      let c = and_yes even_test _ b.1 in
      record { in_order = in_order a.0; openly = opens b.0; evenly = evens lawful c.0; fitting = fits lawful c.1 }

  abbrev pub fine_test : Bool
  fine_test = order_test && (open_test && (even_test && not limit_test))

  pub too_fine : Lawful m → T fine_test → InOrder (offers m) H v w × Open (offers m) H × Even m H × (Fits m H → ⊥)
  too_fine lawful h =
      let a = and_yes order_test _ h in
      let b = and_yes open_test _ a.1 in
      let c = and_yes even_test _ b.1 in
      (in_order a.0, opens b.0, evens lawful c.0, unfit lawful c.1)

  -- nothing is offered at the visit after past ones, in the condition s, and something at every place before
  abbrev pub stuck_test : (past s : ℕ) → Bool
  stuck_test past s = order_test && (ltb past H && (ltb s m.conditions && (every m.remedies (λ r. not (m.offered (suc past) s r)) && every H (λ n. every m.conditions (λ k.
      only_if (ltb n past || ((n == past) && ltb k s)) (some m.remedies (λ r. m.offered (suc n) k r)))))))

  pub stuck : (past s : ℕ) → Lawful m → T (stuck_test past s) → InOrder (offers m) H v w × FirstStuck (offers m) H (suc past) s
  stuck past s lawful h =
      let a = and_yes order_test _ h in
      let b = and_yes (ltb past H) _ a.1 in
      let c = and_yes (ltb s m.conditions) _ b.1 in
      let d = and_yes (every m.remedies (λ r. not (m.offered (suc past) s r))) _ c.1 in
      let low = ltb-true past H (is_true _ b.0) in
      let place : Place (offers m) H (suc past) s = record { from = omega arith; to = omega arith; condition = ltb-true s m.conditions (is_true _ c.0) } in (
        in_order a.0,
        record {
          place = place;
          bare = λ r t. never _ (every_of m.remedies _ d.0 r (lawful.offered_inside (suc past) s r t).some_remedy) t;
          first = λ n k p e. first_before past s d.1 n k p e;
        },
      )
    where
      first_before : (past s : ℕ) → T (every H (λ n. every m.conditions (λ k. only_if (ltb n past || ((n == past) && ltb k s)) (some m.remedies (λ r. m.offered (suc n) k r))))) →
          (n k : ℕ) → Place (offers m) H n k → Before n k (suc past) s → SomeOffered (offers m) n k
      first_before past s h zero k p e = absurd (let l = p.from in omega arith)
      first_before past s h (suc n) k p e =
          let test = every_of m.conditions _ (every_of H _ h n (let l = p.to in omega arith)) k p.condition in
          some_in m.remedies _ (then_so (ltb n past || ((n == past) && ltb k s)) _ test (subst T (sym (earlier e)) tt))
        where
          earlier : Before (suc n) k (suc past) s → (ltb n past || ((n == past) && ltb k s)) ≡ true
          earlier e = grind (arith, nat_tests)

module _ (o : Ops ℤ ℤ) (m : Model) (H : ℕ) (vs : List ℤ) (rs : List ℕ) where
  -- an entry: the remedy is offered and has the value, which is as good as any, and better than those of lower numbers
  abbrev pub entry_test : (n s : ℕ) → Bool
  entry_test n s =
      let later = at o (row_of m vs (n + 1)) in
      let r = get_or (row_of m rs n) s 0 in
      let v = at o (row_of m vs n) s in
      let under = remedied o m (suc n) (H - n) s r later in
      ltb r m.remedies && (m.offered (suc n) s r && (int_le v under && (int_le under v && every m.remedies (λ q.
      let other = remedied o m (suc n) (H - n) s q later in
      only_if (m.offered (suc n) s q) (o.good v other && only_if (ltb q r) (not (o.good other v)))))))

  abbrev pub tables_test : Bool
  tables_test = every m.conditions (λ s. int_le (at o (row_of m vs H) s) (o.closing (m.worth s)) && int_le (o.closing (m.worth s)) (at o (row_of m vs H) s)) && every H (λ n. every m.conditions (λ s. entry_test n s))

  two_ways : (x y : ℤ) → T (int_le x y) → T (int_le y x) → x ≡ y
  two_ways x y a b =
      let c : x ≤ℤ y = record { le = a } in
      let d : y ≤ℤ x = record { le = b } in
      omega (arith, ints)

  best : Lawful m → (n s : ℕ) → T (entry_test n s) → Chosen o m (visit_after n) (H - n) s (row_of m vs (n + 1)) (get_or (row_of m rs n) s 0) (at o (row_of m vs n) s)
  best lawful n s h =
      let later = at o (row_of m vs (n + 1)) in
      let r = get_or (row_of m rs n) s 0 in
      let v = at o (row_of m vs n) s in
      let a = and_yes (ltb r m.remedies) _ h in
      let b = and_yes (m.offered (suc n) s r) _ a.1 in
      let c = and_yes (int_le v _) _ b.1 in
      let d = and_yes (int_le _ v) _ c.1 in
      let of_all = λ (q : ℕ) (l : q < m.remedies) (t : T (m.offered (suc n) s q)). and_yes (o.good v (remedied o m (suc n) (H - n) s q later)) _ (then_so (m.offered (suc n) s q) _ (every_of m.remedies _ d.1 q l) t) in
      let inside = ltb-true r m.remedies (is_true _ a.0) in
      record {
        within = inside;
        offer = b.0;
        valued = two_ways v _ c.0 d.0;
        over = λ q l t. (of_all q l t).0;
        first = λ q l t. never _ (then_so (ltb q r) _ (of_all q (lawful.offered_inside (suc n) s q t).some_remedy t).1 (below_is q r l));
      }
    where
      below_is : (q r : ℕ) → q < r → T (ltb q r)
      below_is q r l = subst T (sym (so q r l)) tt
        where
          so : (q r : ℕ) → q < r → ltb q r ≡ true
          so q r l = grind (arith, nat_tests)

  pub filled : Lawful m → T tables_test → Filled o m (Chosen o m) H 0 vs rs
  filled lawful h =
      let both = and_yes _ (every H (λ n. every m.conditions (λ s. entry_test n s))) h in
      record {
        closed = λ s l. let e = and_yes (int_le (at o (row_of m vs H) s) (o.closing (m.worth s))) _ (every_of m.conditions _ both.0 s l) in two_ways _ _ e.0 e.1;
        rows = λ n from below s l. best lawful n s (every_of m.conditions _ (every_of H _ both.1 n below) s l);
      }

-- the one plan of a closed book, by tables that pass the tests
pub plan_is : (o : Ops ℤ ℤ) (better : ℤ → ℤ → Type 0) → Laws o better → (m : Model) (H : ℕ) → Lawful m → (vs ws : List ℤ) (rs qs : List ℕ) →
    T (accept_test m H (length vs) (length rs) && tables_test o m H ws qs) → KeptPast ((H + 1) * m.conditions) vs ws → KeptPast (H * m.conditions) rs qs →
    (a : Result ℕ PlanRefusal) (vs' : List ℤ) (rs' : List ℕ) → PlanAnswers o m H a vs vs' rs rs' → (a ≡ Ok (H * m.conditions)) × (vs' ≡ ws) × (rs' ≡ qs)
plan_is o better laws m H lawful vs ws rs qs h kept_v kept_r a vs' rs' plan =
    let both = and_yes (accept_test m H (length vs) (length rs)) (tables_test o m H ws qs) h in
    let taken = accepted m H (length vs) (length rs) lawful both.0 in
    let f = filled o m H ws qs lawful both.1 in
    let ours : PlanAnswers o m H (Ok (H * m.conditions)) vs ws rs qs = (
      refl,
      taken,
      record {
        policy = policy_is o m H ws qs lawful f;
        unbeaten = unbeaten_is o m H ws qs lawful f better laws taken.in_order.few;
        lowest = lowest_is o m H ws qs lawful f;
        values = planned_values o m H ws qs lawful f;
        values_kept = kept_v;
        remedies_kept = kept_r;
      },
    ) in
    plans_are_determined o m H vs vs' ws rs rs' qs a (Ok (H * m.conditions)) lawful plan ours
