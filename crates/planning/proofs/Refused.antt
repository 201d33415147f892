-- A refusal, or acceptance, is determined by what was brought.
use Rattle.std.proofs.Common.{◌≡◌, ℕ, ◌*◌, ◌<◌, ◌≤◌, T, ◌⊎◌, List, length, Ok, Err, Result, sym, refl, ap, ◌∙◌, subst, inl, inr, ⊎_elim, arith}
use Rattle.std.proofs.lemmas.Bool.{cases_lt}
use Rattle.model.specs.Model.{Model, Offers, offers}
use Rattle.model.specs.Visits.{Before, Open, Even, Fits}
use Rattle.checks.specs.Places.{FirstStuck, FirstUneven, FirstMisnamed, named, WellNamed}
use Rattle.checks.specs.Acceptance.{InOrder, TooShort, PlanDeclined, JudgeDeclined}
use Rattle.checks.specs.declared.refusal.PlanRefusal.{PlanRefusal}
use Rattle.checks.specs.declared.refusal.PlanRefusal.TheVariants.{Visits, Short, Stuck, Uneven, Fine, Rule}

-- two first places are one
not_less : (x y : ℕ) → (x < y → ⊥) → y ≤ x
not_less x y h = ⊎_elim (λ l. absurd (h l)) (λ l. l) (cases_lt x y)

both : (x y : ℕ) → (x < y → ⊥) → (y < x → ⊥) → x ≡ y
both x y a b = let c = not_less x y a in let d = not_less y x b in omega arith

one_place : (n s k x : ℕ) → (Before n s k x → ⊥) → (Before k x n s → ⊥) → (n ≡ k) × (s ≡ x)
one_place n s k x a b =
    let e : n ≡ k = both n k (λ l. a (inl l)) (λ l. b (inl l)) in
    (e, both s x (λ l. a (inr (e, l))) (λ l. b (inr (sym e, l))))

one_stuck : (o : Offers) (H n s n' s' : ℕ) → FirstStuck o H n s → FirstStuck o H n' s' → ◌≡◌ {A = Result ℕ PlanRefusal} (Err (Stuck n s)) (Err (Stuck n' s'))
one_stuck o H n s n' s' a b =
    let e = one_place n s n' s' (λ l. let x = b.first n s a.place l in a.bare x.0 x.1) (λ l. let x = a.first n' s' b.place l in b.bare x.0 x.1) in
    λ i. Err (Stuck (e.0 i) (e.1 i))

one_uneven : (m : Model) (H n s r n' s' r' : ℕ) → FirstUneven m H n s r → FirstUneven m H n' s' r' → ◌≡◌ {A = Result ℕ PlanRefusal} (Err (Uneven n s r)) (Err (Uneven n' s' r'))
one_uneven m H n s r n' s' r' a b =
    let e = one_place n s n' s' (λ l. b.first n s r a.place (inl l) a.odd) (λ l. a.first n' s' r' b.place (inl l) b.odd) in
    let f = both r r' (λ l. b.first n s r a.place (inr (e.0, e.1, l)) a.odd) (λ l. a.first n' s' r' b.place (inr (sym e.0, sym e.1, l)) b.odd) in
    λ i. Err (Uneven (e.0 i) (e.1 i) (f i))

misnamed : (o : Offers) (rs : List ℕ) (H n s r : ℕ) → FirstMisnamed o rs H n s r → T (o.offered n s (named o rs n s)) → ⊥
misnamed o rs H n s r bad here = bad.not_offered (subst (λ (x : ℕ). T (o.offered n s x)) (sym bad.names) here)

one_rule : (o : Offers) (rs : List ℕ) (H n s r n' s' r' : ℕ) → FirstMisnamed o rs H n s r → FirstMisnamed o rs H n' s' r' → ◌≡◌ {A = Result ℕ PlanRefusal} (Err (Rule n s r)) (Err (Rule n' s' r'))
one_rule o rs H n s r n' s' r' a b =
    let e = one_place n s n' s' (λ l. misnamed o rs H n s r a (b.first n s a.place l)) (λ l. misnamed o rs H n' s' r' b (a.first n' s' b.place l)) in
    let f : r ≡ r' = a.names ∙ (λ i. named o rs (e.0 i) (e.1 i)) ∙ sym b.names in
    λ i. Err (Rule (e.0 i) (e.1 i) (f i))

no_visits : (H : ℕ) → (H < 1) ⊎ (48 < H) → 1 ≤ H → H ≤ 48 → ⊥
no_visits H bad a b = ⊎_elim (λ l. omega arith) (λ l. omega arith) bad

no_room : (o : Offers) (H v w : ℕ) → TooShort o H v w → InOrder o H v w → ⊥
no_room o H v w bad order = ⊎_elim (λ l. omega (arith, order.values_room)) (λ l. omega (arith, order.remedies_room)) bad.which

module _ (m : Model) (H v w : ℕ) where
  pub data PlanView : Result ℕ PlanRefusal → Type 0 where
    at_visits_plan : (H < 1) ⊎ (48 < H) → PlanView (Err Visits)
    at_short_plan : TooShort (offers m) H v w → PlanView (Err Short)
    at_stuck_plan : (n s : ℕ) → InOrder (offers m) H v w → FirstStuck (offers m) H n s → PlanView (Err (Stuck n s))
    at_uneven_plan : (n s r : ℕ) → InOrder (offers m) H v w → Open (offers m) H → FirstUneven m H n s r → PlanView (Err (Uneven n s r))
    at_fine_plan : InOrder (offers m) H v w → Open (offers m) H → Even m H → (Fits m H → ⊥) → PlanView (Err Fine)
    at_accepted_plan : (n : ℕ) → n ≡ H * m.conditions → InOrder (offers m) H v w → Open (offers m) H → Even m H → Fits m H → PlanView (Ok n)

  pub one_plan : {a b : Result ℕ PlanRefusal} → PlanView a → PlanView b → a ≡ b
  one_plan (at_visits_plan p) (at_visits_plan p') = refl
  one_plan (at_visits_plan p) (at_short_plan p') = absurd (no_visits H p p'.some p'.few)
  one_plan (at_visits_plan p) (at_stuck_plan n' s' order' why') = absurd (no_visits H p order'.some order'.few)
  one_plan (at_visits_plan p) (at_uneven_plan n' s' r' order' named' odd') = absurd (no_visits H p order'.some order'.few)
  one_plan (at_visits_plan p) (at_fine_plan order' named' even' large') = absurd (no_visits H p order'.some order'.few)
  one_plan (at_visits_plan p) (at_accepted_plan n' count' order' named' even' fits') = absurd (no_visits H p order'.some order'.few)
  one_plan (at_short_plan p) (at_visits_plan p') = absurd (no_visits H p' p.some p.few)
  one_plan (at_short_plan p) (at_short_plan p') = refl
  one_plan (at_short_plan p) (at_stuck_plan n' s' order' why') = absurd (no_room (offers m) H v w p order')
  one_plan (at_short_plan p) (at_uneven_plan n' s' r' order' named' odd') = absurd (no_room (offers m) H v w p order')
  one_plan (at_short_plan p) (at_fine_plan order' named' even' large') = absurd (no_room (offers m) H v w p order')
  one_plan (at_short_plan p) (at_accepted_plan n' count' order' named' even' fits') = absurd (no_room (offers m) H v w p order')
  one_plan (at_stuck_plan n s order why) (at_visits_plan p') = absurd (no_visits H p' order.some order.few)
  one_plan (at_stuck_plan n s order why) (at_short_plan p') = absurd (no_room (offers m) H v w p' order)
  one_plan (at_stuck_plan n s order why) (at_stuck_plan n' s' order' why') = one_stuck (offers m) H n s n' s' why why'
  one_plan (at_stuck_plan n s order why) (at_uneven_plan n' s' r' order' named' odd') = absurd (why.bare (named' n s why.place).0 (named' n s why.place).1)
  one_plan (at_stuck_plan n s order why) (at_fine_plan order' named' even' large') = absurd (why.bare (named' n s why.place).0 (named' n s why.place).1)
  one_plan (at_stuck_plan n s order why) (at_accepted_plan n' count' order' named' even' fits') = absurd (why.bare (named' n s why.place).0 (named' n s why.place).1)
  one_plan (at_uneven_plan n s r order named odd) (at_visits_plan p') = absurd (no_visits H p' order.some order.few)
  one_plan (at_uneven_plan n s r order named odd) (at_short_plan p') = absurd (no_room (offers m) H v w p' order)
  one_plan (at_uneven_plan n s r order named odd) (at_stuck_plan n' s' order' why') = absurd (why'.bare (named n' s' why'.place).0 (named n' s' why'.place).1)
  one_plan (at_uneven_plan n s r order named odd) (at_uneven_plan n' s' r' order' named' odd') = one_uneven m H n s r n' s' r' odd odd'
  one_plan (at_uneven_plan n s r order named odd) (at_fine_plan order' named' even' large') = absurd (odd.odd.1 (even' n s r odd.place odd.odd.0))
  one_plan (at_uneven_plan n s r order named odd) (at_accepted_plan n' count' order' named' even' fits') = absurd (odd.odd.1 (even' n s r odd.place odd.odd.0))
  one_plan (at_fine_plan order named even large) (at_visits_plan p') = absurd (no_visits H p' order.some order.few)
  one_plan (at_fine_plan order named even large) (at_short_plan p') = absurd (no_room (offers m) H v w p' order)
  one_plan (at_fine_plan order named even large) (at_stuck_plan n' s' order' why') = absurd (why'.bare (named n' s' why'.place).0 (named n' s' why'.place).1)
  one_plan (at_fine_plan order named even large) (at_uneven_plan n' s' r' order' named' odd') = absurd (odd'.odd.1 (even n' s' r' odd'.place odd'.odd.0))
  one_plan (at_fine_plan order named even large) (at_fine_plan order' named' even' large') = refl
  one_plan (at_fine_plan order named even large) (at_accepted_plan n' count' order' named' even' fits') = absurd (large fits')
  one_plan (at_accepted_plan n count order named even fits) (at_visits_plan p') = absurd (no_visits H p' order.some order.few)
  one_plan (at_accepted_plan n count order named even fits) (at_short_plan p') = absurd (no_room (offers m) H v w p' order)
  one_plan (at_accepted_plan n count order named even fits) (at_stuck_plan n' s' order' why') = absurd (why'.bare (named n' s' why'.place).0 (named n' s' why'.place).1)
  one_plan (at_accepted_plan n count order named even fits) (at_uneven_plan n' s' r' order' named' odd') = absurd (odd'.odd.1 (even n' s' r' odd'.place odd'.odd.0))
  one_plan (at_accepted_plan n count order named even fits) (at_fine_plan order' named' even' large') = absurd (large' fits)
  one_plan (at_accepted_plan n count order named even fits) (at_accepted_plan n' count' order' named' even' fits') = ap Ok (count ∙ sym count')

  pub seen_plan : (f : PlanRefusal) → PlanDeclined m H v w f → PlanView (Err f)
  seen_plan Visits p = at_visits_plan p
  seen_plan Short p = at_short_plan p
  seen_plan (Stuck n s) (order, why) = at_stuck_plan n s order why
  seen_plan (Uneven n s r) (order, named, odd) = at_uneven_plan n s r order named odd
  seen_plan Fine (order, named, even, large) = at_fine_plan order named even large
  seen_plan (Rule n s r) p = absurd p

module _ (m : Model) (H v : ℕ) (rs : List ℕ) where
  pub data JudgeView : Result ℕ PlanRefusal → Type 0 where
    at_visits_judge : (H < 1) ⊎ (48 < H) → JudgeView (Err Visits)
    at_short_judge : TooShort (offers m) H v (length rs) → JudgeView (Err Short)
    at_rule_judge : (n s r : ℕ) → InOrder (offers m) H v (length rs) → FirstMisnamed (offers m) rs H n s r → JudgeView (Err (Rule n s r))
    at_uneven_judge : (n s r : ℕ) → InOrder (offers m) H v (length rs) → WellNamed (offers m) rs H → FirstUneven m H n s r → JudgeView (Err (Uneven n s r))
    at_fine_judge : InOrder (offers m) H v (length rs) → WellNamed (offers m) rs H → Even m H → (Fits m H → ⊥) → JudgeView (Err Fine)
    at_accepted_judge : (n : ℕ) → n ≡ H * m.conditions → InOrder (offers m) H v (length rs) → WellNamed (offers m) rs H → Even m H → Fits m H → JudgeView (Ok n)

  pub one_judge : {a b : Result ℕ PlanRefusal} → JudgeView a → JudgeView b → a ≡ b
  one_judge (at_visits_judge p) (at_visits_judge p') = refl
  one_judge (at_visits_judge p) (at_short_judge p') = absurd (no_visits H p p'.some p'.few)
  one_judge (at_visits_judge p) (at_rule_judge n' s' r' order' why') = absurd (no_visits H p order'.some order'.few)
  one_judge (at_visits_judge p) (at_uneven_judge n' s' r' order' named' odd') = absurd (no_visits H p order'.some order'.few)
  one_judge (at_visits_judge p) (at_fine_judge order' named' even' large') = absurd (no_visits H p order'.some order'.few)
  one_judge (at_visits_judge p) (at_accepted_judge n' count' order' named' even' fits') = absurd (no_visits H p order'.some order'.few)
  one_judge (at_short_judge p) (at_visits_judge p') = absurd (no_visits H p' p.some p.few)
  one_judge (at_short_judge p) (at_short_judge p') = refl
  one_judge (at_short_judge p) (at_rule_judge n' s' r' order' why') = absurd (no_room (offers m) H v (length rs) p order')
  one_judge (at_short_judge p) (at_uneven_judge n' s' r' order' named' odd') = absurd (no_room (offers m) H v (length rs) p order')
  one_judge (at_short_judge p) (at_fine_judge order' named' even' large') = absurd (no_room (offers m) H v (length rs) p order')
  one_judge (at_short_judge p) (at_accepted_judge n' count' order' named' even' fits') = absurd (no_room (offers m) H v (length rs) p order')
  one_judge (at_rule_judge n s r order why) (at_visits_judge p') = absurd (no_visits H p' order.some order.few)
  one_judge (at_rule_judge n s r order why) (at_short_judge p') = absurd (no_room (offers m) H v (length rs) p' order)
  one_judge (at_rule_judge n s r order why) (at_rule_judge n' s' r' order' why') = one_rule (offers m) rs H n s r n' s' r' why why'
  one_judge (at_rule_judge n s r order why) (at_uneven_judge n' s' r' order' named' odd') = absurd (misnamed (offers m) rs H n s r why (named' n s why.place))
  one_judge (at_rule_judge n s r order why) (at_fine_judge order' named' even' large') = absurd (misnamed (offers m) rs H n s r why (named' n s why.place))
  one_judge (at_rule_judge n s r order why) (at_accepted_judge n' count' order' named' even' fits') = absurd (misnamed (offers m) rs H n s r why (named' n s why.place))
  one_judge (at_uneven_judge n s r order named odd) (at_visits_judge p') = absurd (no_visits H p' order.some order.few)
  one_judge (at_uneven_judge n s r order named odd) (at_short_judge p') = absurd (no_room (offers m) H v (length rs) p' order)
  one_judge (at_uneven_judge n s r order named odd) (at_rule_judge n' s' r' order' why') = absurd (misnamed (offers m) rs H n' s' r' why' (named n' s' why'.place))
  one_judge (at_uneven_judge n s r order named odd) (at_uneven_judge n' s' r' order' named' odd') = one_uneven m H n s r n' s' r' odd odd'
  one_judge (at_uneven_judge n s r order named odd) (at_fine_judge order' named' even' large') = absurd (odd.odd.1 (even' n s r odd.place odd.odd.0))
  one_judge (at_uneven_judge n s r order named odd) (at_accepted_judge n' count' order' named' even' fits') = absurd (odd.odd.1 (even' n s r odd.place odd.odd.0))
  one_judge (at_fine_judge order named even large) (at_visits_judge p') = absurd (no_visits H p' order.some order.few)
  one_judge (at_fine_judge order named even large) (at_short_judge p') = absurd (no_room (offers m) H v (length rs) p' order)
  one_judge (at_fine_judge order named even large) (at_rule_judge n' s' r' order' why') = absurd (misnamed (offers m) rs H n' s' r' why' (named n' s' why'.place))
  one_judge (at_fine_judge order named even large) (at_uneven_judge n' s' r' order' named' odd') = absurd (odd'.odd.1 (even n' s' r' odd'.place odd'.odd.0))
  one_judge (at_fine_judge order named even large) (at_fine_judge order' named' even' large') = refl
  one_judge (at_fine_judge order named even large) (at_accepted_judge n' count' order' named' even' fits') = absurd (large fits')
  one_judge (at_accepted_judge n count order named even fits) (at_visits_judge p') = absurd (no_visits H p' order.some order.few)
  one_judge (at_accepted_judge n count order named even fits) (at_short_judge p') = absurd (no_room (offers m) H v (length rs) p' order)
  one_judge (at_accepted_judge n count order named even fits) (at_rule_judge n' s' r' order' why') = absurd (misnamed (offers m) rs H n' s' r' why' (named n' s' why'.place))
  one_judge (at_accepted_judge n count order named even fits) (at_uneven_judge n' s' r' order' named' odd') = absurd (odd'.odd.1 (even n' s' r' odd'.place odd'.odd.0))
  one_judge (at_accepted_judge n count order named even fits) (at_fine_judge order' named' even' large') = absurd (large' fits)
  one_judge (at_accepted_judge n count order named even fits) (at_accepted_judge n' count' order' named' even' fits') = ap Ok (count ∙ sym count')

  pub seen_judge : (f : PlanRefusal) → JudgeDeclined m H v rs f → JudgeView (Err f)
  seen_judge Visits p = at_visits_judge p
  seen_judge Short p = at_short_judge p
  seen_judge (Stuck n s) p = absurd p
  seen_judge (Uneven n s r) (order, named, odd) = at_uneven_judge n s r order named odd
  seen_judge Fine (order, named, even, large) = at_fine_judge order named even large
  seen_judge (Rule n s r) (order, why) = at_rule_judge n s r order why
