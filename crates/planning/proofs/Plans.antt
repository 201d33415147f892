-- What filled tables say of policies.
use Rattle.std.proofs.Common.{◌≡◌, ℕ, zero, suc, ◌+◌, ◌-◌, ◌*◌, ◌<◌, ◌≤◌, cond, T, ltb, List, length, get_or, drop, sym, refl, ap, ◌∙◌, subst, add-zero, add-one, arith}
use Rattle.std.proofs.lemmas.List.{get_or-take, get_or-drop}
use Rattle.model.specs.Model.{Model, Lawful, offers}
use Rattle.model.specs.Visits.{visit_after}
use Rattle.criteria.specs.Criteria.{Ops, Laws}
use Rattle.criteria.specs.Policies.{Policy, next_visit, onward, entered, remedied, value, Unbeaten, tabled}
use Rattle.planning.specs.Tables.{at, row_of, Entry, Valued, Chosen, Filled}
use Rattle.criteria.specs.Optimal.{Plan, ahead, by_table}
use Rattle.planning.specs.Plans.{ValuesOf, Lowest}
use Rattle.criteria.proofs.Histories.{length_more}
use Rattle.criteria.proofs.Optimal.{value_ahead, plan_is_unbeaten}

module _ {V A : Type 0} (o : Ops V A) (m : Model) where
  pub entered_same : (visit left s r : ℕ) (f g : ℕ → V) (j : ℕ) → ((i : ℕ) → i < j → f i ≡ g i) → entered o m visit left s r f j ≡ entered o m visit left s r g j
  entered_same visit left s r f g zero each = refl
  entered_same visit left s r f g (suc j) each =
      let a = entered_same visit left s r f g j (λ i l. each i (omega arith)) in
      let b = each j (omega arith) in
      λ i. cond (ltb 0 (m.share visit s r j)) (o.enter left m.parts (m.share visit s r j) (m.amount visit s r j) (b i) (a i)) (a i)

  pub remedied_same : (visit left s r : ℕ) (f g : ℕ → V) → ((i : ℕ) → i < m.conditions → f i ≡ g i) → remedied o m visit left s r f ≡ remedied o m visit left s r g
  remedied_same visit left s r f g each = ap (o.close m.parts) (entered_same visit left s r f g m.conditions each)

  -- an element of a row, in the table
  row_at : {X : Type 0} (xs : List X) (n j : ℕ) (d : X) → j < m.conditions → get_or (row_of m xs n) j d ≡ get_or xs (n * m.conditions + j) d
  row_at xs n j d h = get_or-take m.conditions (drop (n * m.conditions) xs) j d h ∙ get_or-drop (n * m.conditions) xs j d

  -- what is asked of an entry, by its places in the tables
  entry_at : (E : Entry V) (visits n s : ℕ) (vs : List V) (rs : List ℕ) → Filled o m E visits 0 vs rs → n < visits → s < m.conditions →
      E (visit_after n) (visits - n) s (row_of m vs (n + 1)) (get_or rs (n * m.conditions + s) 0) (at o vs (n * m.conditions + s))
  entry_at E visits n s vs rs f l h =
      subst (λ x. E (visit_after n) (visits - n) s (row_of m vs (n + 1)) x (at o vs (n * m.conditions + s))) (row_at rs n s 0 h)
      (subst (λ x. E (visit_after n) (visits - n) s (row_of m vs (n + 1)) (get_or (row_of m rs n) s 0) x) (row_at vs n s _ h) (f.rows n (omega arith) l s h))

  pub chosen_valued : (visits from : ℕ) (vs : List V) (rs : List ℕ) → Filled o m (Chosen o m) visits from vs rs → Filled o m (Valued o m) visits from vs rs
  chosen_valued visits from vs rs f = record { closed = f.closed; rows = λ n a b s l. (f.rows n a b s l).valued }

  module _ (visits : ℕ) (vs : List V) (rs : List ℕ) (f : Filled o m (Valued o m) visits 0 vs rs) where
    abbrev rule : ℕ → ℕ → ℕ
    rule = by_table (offers m) rs

    -- a remedy is worth the same by the next row and by the rule, where that row holds the rule's values
    under_by : (k past s r : ℕ) → past + suc k ≡ visits → ((j : ℕ) → j < m.conditions → at o vs (suc past * m.conditions + j) ≡ ahead o m rule (suc past) k j) →
        remedied o m (visit_after past) (visits - past) s r (at o (row_of m vs (past + 1))) ≡ remedied o m (visit_after past) (suc k) s r (λ j. ahead o m rule (suc past) k j)
    under_by k past s r e next =
        let left : visits - past ≡ suc k = omega arith in
        ap (λ n. remedied o m (visit_after past) n s r (at o (row_of m vs (past + 1)))) left
        ∙ remedied_same (visit_after past) (suc k) s r _ _ (λ j y. row_at vs (past + 1) j _ y ∙ ap (λ n. at o vs (n * m.conditions + j)) (add-one past) ∙ next j y)

    -- the table of values holds the values of the rule that the table of remedies names
    pub ahead_is : (k past s : ℕ) → past + k ≡ visits → s < m.conditions → at o vs (past * m.conditions + s) ≡ ahead o m rule past k s
    ahead_is zero past s e b = ap (λ n. at o vs (n * m.conditions + s)) (sym (add-zero past) ∙ e) ∙ sym (row_at vs visits s _ b) ∙ f.closed s b
    ahead_is (suc k) past s e b = entry_at (Valued o m) visits past s vs rs f (omega arith) b ∙ under_by k past s (rule past s) e (λ j y. ahead_is k (suc past) j (omega arith) y)

    pub under_is : (k past s r : ℕ) → past + suc k ≡ visits → remedied o m (visit_after past) (visits - past) s r (at o (row_of m vs (past + 1))) ≡ remedied o m (visit_after past) (suc k) s r (λ j. ahead o m rule (suc past) k j)
    under_is k past s r e = under_by k past s r e (λ j y. ahead_is k (suc past) j (omega arith) y)

    pub values_are : ValuesOf o m visits (tabled (offers m) rs) vs
    values_are h k s e w b = ahead_is k (length h) s e b ∙ sym (value_ahead o m rule k h s)

  module _ (visits : ℕ) (vs : List V) (rs : List ℕ) (lawful : Lawful m) (f : Filled o m (Chosen o m) visits 0 vs rs) where
    valued : Filled o m (Valued o m) visits 0 vs rs
    valued = chosen_valued visits 0 vs rs f

    plans : Plan o m visits (by_table (offers m) rs)
    plans = record {
      offers = λ past s l b. (entry_at (Chosen o m) visits past s vs rs f l b).offer;
      best = λ past k s r e b t.
          let low : past < visits = omega arith in
          let over = (entry_at (Chosen o m) visits past s vs rs f low b).over r (lawful.offered_inside (visit_after past) s r t).some_remedy t in
          subst (λ x. T (o.good x (remedied o m (visit_after past) (suc k) s r (λ j. ahead o m (by_table (offers m) rs) (suc past) k j)))) (ahead_is visits vs rs valued (suc k) past s e b)
          (subst (λ x. T (o.good (at o vs (past * m.conditions + s)) x)) (under_is visits vs rs valued k past s r e) over);
    }

    pub lowest_is : Lowest o m visits (tabled (offers m) rs)
    lowest_is h k s r e w b before t good =
        let p = tabled (offers m) rs in
        let c = by_table (offers m) rs in
        let low : length h < visits = omega arith in
        let same : remedied o m (next_visit h) (suc k) s r (λ j. value o m p k (onward p h s) j) ≡ remedied o m (next_visit h) (visits - length h) s r (at o (row_of m vs (length h + 1))) =
        remedied_same (next_visit h) (suc k) s r _ _ (λ j y. value_ahead o m c k (onward p h s) j ∙ ap (λ n. ahead o m c n k j) (length_more h _)) ∙ sym (under_is visits vs rs valued k (length h) s r e) in
        (entry_at (Chosen o m) visits (length h) s vs rs f low b).first r before t
        (subst (λ x. T (o.good x (at o vs (length h * m.conditions + s)))) same
        (subst (λ x. T (o.good (remedied o m (next_visit h) (suc k) s r (λ j. value o m p k (onward p h s) j)) x)) (sym (values_are visits vs rs valued h (suc k) s e w b)) good))

    pub policy_is : Policy (offers m) visits (tabled (offers m) rs)
    policy_is h s low w b = (entry_at (Chosen o m) visits (length h) s vs rs f low b).offer

    pub unbeaten_is : (better : A → A → Type 0) → Laws o better → visits ≤ 48 → Unbeaten o m visits (tabled (offers m) rs)
    unbeaten_is better laws few = (plan_is_unbeaten o better m visits (by_table (offers m) rs) laws lawful few plans).1

    pub planned_values : ValuesOf o m visits (tabled (offers m) rs) vs
    planned_values = values_are visits vs rs valued
