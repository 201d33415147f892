-- There is one plan only.
use Rattle.std.proofs.Common.{◌≡◌, ℕ, zero, suc, ◌+◌, ◌-◌, ◌*◌, ◌/◌, ◌%◌, ◌<◌, ◌≤◌, T, List, [], ◌∷◌, ◌++◌, length, get_or, take, pos, sym, refl, ap, ◌∙◌, subst, ⊎_elim, mod-lt, div-lt_iff_lt-mul, div-add-mod', arith}
use Rattle.std.proofs.lemmas.List.{ext_get_or, get_or-take, length-take-le}
use Rattle.std.proofs.lemmas.Bool.{cases_lt}
use Rattle.model.specs.Model.{Model, Lawful, offers}
use Rattle.criteria.specs.Criteria.{Ops}
use Rattle.criteria.specs.Policies.{Step, History, Within, Choice, Policy, next_visit, onward, remedied, value, Unbeaten, tabled}
use Rattle.criteria.specs.Optimal.{ahead, by_table}
use Rattle.planning.specs.Plans.{ValuesOf, Lowest}
use Rattle.planning.specs.Agreeing.{PlansAgree}
use Rattle.criteria.proofs.Histories.{within_more, length_more, long, long_length, long_within}
use Rattle.criteria.proofs.Optimal.{value_ahead}
use Rattle.planning.proofs.Plans.{remedied_same}

-- two lists of rows with the same entries
pub take_rows : {V : Type 0} (d : V) (n c : ℕ) (xs ys : List V) → 1 ≤ c → n * c ≤ length xs → n * c ≤ length ys → ((q s : ℕ) → q < n → s < c → get_or xs (q * c + s) d ≡ get_or ys (q * c + s) d) → take (n * c) xs ≡ take (n * c) ys
take_rows d n c xs ys some a b each =
    let long_x = length-take-le (n * c) xs a in
    let long_y = length-take-le (n * c) ys b in
    ext_get_or d (take (n * c) xs) (take (n * c) ys) (long_x ∙ sym long_y)
    (λ i l. let il : i < n * c = omega arith in get_or-take (n * c) xs i d il ∙ at i il ∙ sym (get_or-take (n * c) ys i d il))
  where
    at : (i : ℕ) → i < n * c → get_or xs i d ≡ get_or ys i d
    at i il =
        let e : i / c * c + i % c ≡ i = div-add-mod' i c in
        let ql : i / c < n = (div-lt_iff_lt-mul some).1 il in
        subst (λ (x : ℕ). get_or xs x d ≡ get_or ys x d) e (each (i / c) (i % c) ql (mod-lt i some))

module _ {V A : Type 0} (o : Ops V A) (m : Model) (H : ℕ) (lawful : Lawful m) where
  pub entry_value : (p : Choice) (vs : List V) → ValuesOf o m H p vs → (q s : ℕ) → q ≤ H → s < m.conditions → get_or vs (q * m.conditions + s) (o.closing (pos 0)) ≡ value o m p (H - q) (long q) s
  entry_value p vs values q s l i =
      let e = long_length q in
      subst (λ (x : ℕ). get_or vs (x * m.conditions + s) (o.closing (pos 0)) ≡ value o m p (H - q) (long q) s) e (values (long q) (H - q) s (omega arith) (long_within (offers m) lawful.some_condition lawful.some_remedy q) i)

  -- a table's values do not hang on the remedies of the past
  value_past : (t : List ℕ) (k : ℕ) (h : History) (x y : Step) (j : ℕ) → value o m (tabled (offers m) t) k (h ++ (x ∷ [])) j ≡ value o m (tabled (offers m) t) k (h ++ (y ∷ [])) j
  value_past t k h x y j = value_ahead o m (by_table (offers m) t) k (h ++ (x ∷ [])) j ∙ ap (λ (n : ℕ). ahead o m (by_table (offers m) t) n k j) (length_more h x ∙ sym (length_more h y)) ∙ sym (value_ahead o m (by_table (offers m) t) k (h ++ (y ∷ [])) j)

  abbrev Agree : (t u : List ℕ) → ℕ → Type 0
  Agree t u k = (h : History) (s : ℕ) → length h + k ≡ H → Within (offers m) h → s < m.conditions → value o m (tabled (offers m) t) k h s ≡ value o m (tabled (offers m) u) k h s

  module _ (t u : List ℕ) (policy_t : Policy (offers m) H (tabled (offers m) t)) (policy_u : Policy (offers m) H (tabled (offers m) u)) where
    laters : (k : ℕ) → Agree t u k → (h : History) (s : ℕ) → length h + suc k ≡ H → Within (offers m) h → s < m.conditions → (j : ℕ) → j < m.conditions → value o m (tabled (offers m) t) k (onward (tabled (offers m) t) h s) j ≡ value o m (tabled (offers m) u) k (onward (tabled (offers m) u) h s) j
    laters k agree h s e w i j jl =
        let x : Step = record { condition = s; remedy = tabled (offers m) t h s } in
        let more = length_more h x in
        let here = policy_t h s (omega arith) w i in
        agree (h ++ (x ∷ [])) j (omega arith) (within_more (offers m) h x w i (lawful.offered_inside _ s _ here).some_remedy) jl ∙ value_past u k h x (record { condition = s; remedy = tabled (offers m) u h s }) j

    -- where the later values agree, the second table's remedy is not below the first's
    not_lower : Lowest o m H (tabled (offers m) t) → Unbeaten o m H (tabled (offers m) u) → (k : ℕ) → Agree t u k → (h : History) (s : ℕ) → length h + suc k ≡ H → Within (offers m) h → s < m.conditions → tabled (offers m) u h s < tabled (offers m) t h s → ⊥
    not_lower lowest unbeaten k agree h s e w i lower =
        lowest h k s (tabled (offers m) u h s) e w i lower (policy_u h s (omega arith) w i)
        (subst (λ (v : V). T (o.good v (value o m (tabled (offers m) t) (suc k) h s))) (sym (remedied_same o m (next_visit h) (suc k) s (tabled (offers m) u h s) _ _ (laters k agree h s e w i))) (unbeaten (tabled (offers m) t) policy_t h (suc k) s e w i))

  module _ (t u : List ℕ) (policy_t : Policy (offers m) H (tabled (offers m) t)) (policy_u : Policy (offers m) H (tabled (offers m) u)) (best_t : Unbeaten o m H (tabled (offers m) t)) (best_u : Unbeaten o m H (tabled (offers m) u)) (low_t : Lowest o m H (tabled (offers m) t)) (low_u : Lowest o m H (tabled (offers m) u)) where
    one_choice : (k : ℕ) → Agree t u k → (h : History) (s : ℕ) → length h + suc k ≡ H → Within (offers m) h → s < m.conditions → tabled (offers m) t h s ≡ tabled (offers m) u h s
    one_choice k agree h s e w i =
        ⊎_elim
        (λ a. absurd (not_lower u t policy_u policy_t low_u best_t k (λ h s e w i. sym (agree h s e w i)) h s e w i a))
        (λ b. ⊎_elim
        (λ c. absurd (not_lower t u policy_t policy_u low_t best_u k agree h s e w i c))
        (λ d. omega arith)
        (cases_lt (tabled (offers m) u h s) (tabled (offers m) t h s)))
        (cases_lt (tabled (offers m) t h s) (tabled (offers m) u h s))

    agreed : (k : ℕ) → Agree t u k
    agreed zero h s e w i = refl
    agreed (suc k) h s e w i =
        ap (λ (r : ℕ). remedied o m (next_visit h) (suc k) s r (λ j. value o m (tabled (offers m) t) k (onward (tabled (offers m) t) h s) j)) (one_choice k (agreed k) h s e w i)
        ∙ remedied_same o m (next_visit h) (suc k) s (tabled (offers m) u h s) _ _ (laters t u policy_t policy_u k (agreed k) h s e w i)

    one_entry : (q s : ℕ) → q < H → s < m.conditions → get_or t (q * m.conditions + s) 0 ≡ get_or u (q * m.conditions + s) 0
    one_entry q s l i =
        let e = long_length q in
        let k : ℕ = H - suc q in
        let sum : length (long q) + suc k ≡ H = omega arith in
        subst (λ (x : ℕ). get_or t (x * m.conditions + s) 0 ≡ get_or u (x * m.conditions + s) 0) e (one_choice k (agreed k) (long q) s sum (long_within (offers m) lawful.some_condition lawful.some_remedy q) i)

pub plans_agree_lem : {V A : Type 0} (o : Ops V A) → PlansAgree o
plans_agree_lem o m H n n' vs vs' ws ws' rs rs' qs qs' lawful (count, taken, plan) (count', taken', plan') = (
  count ∙ sym count',
  take_rows 0 H m.conditions rs' qs' lawful.some_condition (omega (arith, plan.remedies_kept.long, taken.in_order.remedies_room)) (omega (arith, plan'.remedies_kept.long, taken'.in_order.remedies_room))
      (one_entry o m H lawful rs' qs' plan.policy plan'.policy plan.unbeaten plan'.unbeaten plan.lowest plan'.lowest),
  take_rows (o.closing (pos 0)) (H + 1) m.conditions vs' ws' lawful.some_condition (omega (arith, plan.values_kept.long, taken.in_order.values_room)) (omega (arith, plan'.values_kept.long, taken'.in_order.values_room))
      (λ q s ql sl.
      let l : q ≤ H = omega arith in
      let e = long_length q in
      entry_value o m H lawful (tabled (offers m) rs') vs' plan.values q s l sl
      ∙ agreed o m H lawful rs' qs' plan.policy plan'.policy plan.unbeaten plan'.unbeaten plan.lowest plan'.lowest (H - q) (long q) s (omega arith) (long_within (offers m) lawful.some_condition lawful.some_remedy q) sl
      ∙ sym (entry_value o m H lawful (tabled (offers m) qs') ws' plan'.values q s l sl)),
)
