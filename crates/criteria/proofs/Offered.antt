-- There is a policy where a remedy is offered throughout, and nowhere else.
use Rattle.std.proofs.Common.{◌≡◌, ℕ, zero, suc, ◌<◌, ◌≤◌, Bool, true, false, cond, T, ◌⊎◌, [], length, sym, refl, subst, inl, inr, ⊎_elim, arith}
use Rattle.std.proofs.lemmas.Bool.{cases_lt}
use Rattle.model.specs.Model.{Offers}
use Rattle.model.specs.Visits.{visit_after}
use Rattle.criteria.specs.Policies.{next_visit, Within, Choice, Policy, OffersItsOwn}
use Rattle.criteria.specs.Optimal.{OfferedThroughout, least, first_offered, StuckHasNone, OfferedHasOne, PolicyIffOffered, OfferedOrStuck}
use Rattle.criteria.proofs.Histories.{long, long_length, long_within}

policy_offered : (o : Offers) (visits : ℕ) → OffersItsOwn o → (p : Choice) → Policy o visits p → OfferedThroughout o visits
policy_offered o visits own p policy past s l i =
    let first = own _ s _ (policy [] s (omega arith) tt i) in
    let within : Within o (long past) = long_within o (omega arith) (omega arith) past in
    let here : T (o.offered (visit_after past) s (p (long past) s)) = subst (λ n. T (o.offered (visit_after n) s (p (long past) s))) (long_length past) (policy (long past) s (omega (arith, long_length past)) within i) in
    (p (long past) s, own _ s _ here, here)

least_passes : (f : ℕ → Bool) (n r : ℕ) → r < n → T (f r) → T (f (least f n))
least_passes f zero r l t = absurd (omega arith)
least_passes f (suc n) r l t = go (λ r. least_passes (λ k. f (suc k)) n r) (f 0) refl r l t
  where
    go : ((r : ℕ) → r < n → T (f (suc r)) → T (f (suc (least (λ k. f (suc k)) n)))) → (b : Bool) → f 0 ≡ b → (r : ℕ) → r < suc n → T (f r) → T (f (cond b 0 (suc (least (λ k. f (suc k)) n))))
    go ih true e r l t = subst T (sym e) tt
    go ih false e zero l t = absurd (subst T e t)
    go ih false e (suc r) l t = ih r (omega arith) t

pub offered_has_one : OfferedHasOne
offered_has_one o visits opens h s l w i = let found = opens (length h) s l i in least_passes (o.offered (next_visit h) s) o.remedies found.0 found.1 found.2

pub stuck_has_none : StuckHasNone
stuck_has_none o visits own stuck p policy = let found = policy_offered o visits own p policy stuck.0 stuck.1 stuck.2 stuck.3 in stuck.4 found.0 found.1 found.2

pub policy_iff_offered : PolicyIffOffered
policy_iff_offered o visits own = (λ x. policy_offered o visits own x.0 x.1, λ opens. (first_offered o, offered_has_one o visits opens))

-- each of the numbers below n is of one kind, or some is of the other
all_or_some : (P Q : ℕ → Type 0) → ((k : ℕ) → P k ⊎ Q k) → (n : ℕ) → ((k : ℕ) → k < n → P k) ⊎ ((k : ℕ) × (k < n) × Q k)
all_or_some P Q each zero = inl (λ k l. absurd (omega arith))
all_or_some P Q each (suc n) = ⊎_elim (λ a. ⊎_elim (λ p. inl (λ k l. go a p k (cases_lt k n) l)) (λ q. inr (n, omega arith, q)) (each n)) (λ s. inr (s.0, omega arith, s.2)) (all_or_some P Q each n)
  where
    go : ((k : ℕ) → k < n → P k) → P n → (k : ℕ) → (k < n) ⊎ (n ≤ k) → k < suc n → P k
    go a p k (inl h) l = a k h
    go a p k (inr h) l = let e : n ≡ k = omega arith in subst P e p

T-or_not : (b : Bool) → (T b → ⊥) ⊎ T b
T-or_not true = inr tt
T-or_not false = inl (λ x. x)

swap : {P Q : Type 0} → P ⊎ Q → Q ⊎ P
swap (inl p) = inr p
swap (inr q) = inl q

pub offered_or_stuck : OfferedOrStuck
offered_or_stuck o visits = ⊎_elim (λ a. inl (λ past s l i. a past l s i)) (λ b. inr (b.0, b.2.0, b.1, b.2.1, b.2.2)) (all_or_some (λ past. (s : ℕ) → s < o.conditions → (r : ℕ) × (r < o.remedies) × T (o.offered (visit_after past) s r)) (λ past. (s : ℕ) × (s < o.conditions) × ((r : ℕ) → r < o.remedies → T (o.offered (visit_after past) s r) → ⊥)) (λ past. all_or_some _ _ (λ s. swap (all_or_some (λ r. T (o.offered (visit_after past) s r) → ⊥) (λ r. T (o.offered (visit_after past) s r)) (λ r. T-or_not (o.offered (visit_after past) s r)) o.remedies)) o.conditions) visits)
