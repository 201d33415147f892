-- A greedy choice, a plan and a table that plans are unbeaten.
use Rattle.std.proofs.Common.{◌≡◌, ℕ, zero, suc, ◌+◌, ◌<◌, ◌≤◌, true, false, cond, T, ltb, length, sym, refl, ap, ◌∙◌, subst, ⊎_elim, arith}
use mathlib.Core.Path.{fun_ext}
use Rattle.model.specs.Model.{Model, offers, Lawful}
use Rattle.model.specs.Visits.{visit_after}
use Rattle.criteria.specs.Criteria.{Ops, Laws}
use Rattle.criteria.specs.Policies.{History, next_visit, Within, Choice, onward, entered, remedied, value, Unbeaten}
use Rattle.criteria.specs.Optimal.{Markov, Greedy, ahead, ruled, by_table, GreedyIsUnbeaten, PlanIsUnbeaten, TableIsUnbeaten}
use Rattle.criteria.proofs.Histories.{books_offer_their_own, within_more, length_more}

-- a Markov choice has one value for all histories of one length
value_markov : {V A : Type 0} (o : Ops V A) (m : Model) (p : Choice) → Markov p → (k : ℕ) (g h : History) (s : ℕ) → length g ≡ length h → value o m p k g s ≡ value o m p k h s
value_markov o m p mk zero g h s e = refl
value_markov o m p mk (suc k) g h s e =
    let later : (λ (j : ℕ). value o m p k (onward p g s) j) ≡ (λ (j : ℕ). value o m p k (onward p h s) j) =
    fun_ext (λ j. value_markov o m p mk k _ _ j (length_more g _ ∙ ap suc e ∙ sym (length_more h _))) in
    λ i. remedied o m (visit_after (e i)) (suc k) s (mk g h s e i) (later i)

pub same_good : {V A : Type 0} (o : Ops V A) (better : A → A → Type 0) → Laws o better → (v : V) → T (o.good v v)
same_good o better laws v = ⊎_elim (λ h. h) (λ h. h) (laws.total v v)

module _ {V A : Type 0} (o : Ops V A) (better : A → A → Type 0) (m : Model) (laws : Laws o better) (lawful : Lawful m) where
  entered_better : (visit left s r : ℕ) (f g : ℕ → V) → 1 ≤ left → left ≤ 48 → (j : ℕ) → ((i : ℕ) → i < j → T (o.good (f i) (g i))) → better (entered o m visit left s r f j) (entered o m visit left s r g j)
  entered_better visit left s r f g low high zero each = laws.itself o.blank
  entered_better visit left s r f g low high (suc j) each =
      let before = entered_better visit left s r f g low high j (λ i l. each i (omega arith)) in
      elim (ltb 0 (m.share visit s r j)) as (λ t. better (cond t (o.enter left m.parts (m.share visit s r j) (m.amount visit s r j) (f j) (entered o m visit left s r f j)) (entered o m visit left s r f j)) (cond t (o.enter left m.parts (m.share visit s r j) (m.amount visit s r j) (g j) (entered o m visit left s r g j)) (entered o m visit left s r g j))) [
        | true ↦ laws.enters left m.parts (m.share visit s r j) (m.amount visit s r j) (f j) (g j) _ _ (record { left_low = low; left_high = high; parts_low = lawful.some_parts; parts_high = lawful.few_parts; share_high = lawful.share_fits visit s r j; money = lawful.amount_fits visit s r j }) (each j (omega arith)) before
        | false ↦ before
      ]

  remedied_good : (visit left s r : ℕ) (f g : ℕ → V) → 1 ≤ left → left ≤ 48 → ((i : ℕ) → i < m.conditions → T (o.good (f i) (g i))) → T (o.good (remedied o m visit left s r f) (remedied o m visit left s r g))
  remedied_good visit left s r f g low high each = laws.closes m.parts _ _ lawful.some_parts lawful.few_parts (entered_better visit left s r f g low high m.conditions each)

  greedy_unbeaten : (visits : ℕ) (p : Choice) → visits ≤ 48 → Markov p → Greedy o m visits p → Unbeaten o m visits p
  greedy_unbeaten visits p few mk greedy q policy h zero s e w l = same_good o better laws _
  greedy_unbeaten visits p few mk greedy q policy h (suc k) s e w l =
      let here = policy h s (omega arith) w l in
      let h' : History = onward q h s in
      let w' : Within (offers m) h' = within_more (offers m) h _ w l (books_offer_their_own m lawful _ s (q h s) here) in
      let n : length h' + k ≡ visits = omega (arith, length_more h (record { condition = s; remedy = q h s })) in
      let each : (j : ℕ) → j < m.conditions → T (o.good (value o m p k (onward p h s) j) (value o m q k h' j)) =
      λ j jl. subst (λ v. T (o.good v (value o m q k h' j))) (value_markov o m p mk k _ _ j (length_more h _ ∙ sym (length_more h _))) (greedy_unbeaten visits p few mk greedy q policy h' k j n w' jl) in
      laws.trans _ _ _ (greedy h k s (q h s) e w l here) (remedied_good (next_visit h) (suc k) s (q h s) _ _ (omega arith) (omega arith) each)

pub greedy_is_unbeaten : {V A : Type 0} (o : Ops V A) (better : A → A → Type 0) → GreedyIsUnbeaten o better
greedy_is_unbeaten o better m visits p laws lawful few mk greedy = greedy_unbeaten o better m laws lawful visits p few mk greedy

pub value_ahead : {V A : Type 0} (o : Ops V A) (m : Model) (c : ℕ → ℕ → ℕ) (k : ℕ) (h : History) (s : ℕ) → value o m (ruled c) k h s ≡ ahead o m c (length h) k s
value_ahead o m c zero h s = refl
value_ahead o m c (suc k) h s = ap (remedied o m (next_visit h) (suc k) s (c (length h) s)) (fun_ext (λ j. value_ahead o m c k _ j ∙ ap (λ n. ahead o m c n k j) (length_more h _)))

ruled_markov : (c : ℕ → ℕ → ℕ) → Markov (ruled c)
ruled_markov c g h s e = ap (λ n. c n s) e

pub plan_is_unbeaten : {V A : Type 0} (o : Ops V A) (better : A → A → Type 0) → PlanIsUnbeaten o better
plan_is_unbeaten o better m visits c laws lawful few plan =
    (λ h s l w i. plan.offers (length h) s l i, greedy_unbeaten o better m laws lawful visits (ruled c) few (ruled_markov c) greedy, λ h k s. value_ahead o m c k h s)
  where
    greedy : Greedy o m visits (ruled c)
    greedy h k s r e w l here =
        let later : (λ (j : ℕ). ahead o m c (suc (length h)) k j) ≡ (λ (j : ℕ). value o m (ruled c) k (onward (ruled c) h s) j) =
        fun_ext (λ j. sym (value_ahead o m c k _ j ∙ ap (λ n. ahead o m c n k j) (length_more h _))) in
        subst (λ f. T (o.good (remedied o m (next_visit h) (suc k) s (c (length h) s) f) (remedied o m (next_visit h) (suc k) s r f))) later (plan.best (length h) k s r e l here)

pub table_is_unbeaten : {V A : Type 0} (o : Ops V A) (better : A → A → Type 0) → TableIsUnbeaten o better
table_is_unbeaten o better m visits t laws lawful few plan = let all = plan_is_unbeaten o better m visits (by_table (offers m) t) laws lawful few plan in (all.0, all.1)
