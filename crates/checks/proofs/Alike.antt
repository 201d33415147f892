-- Visits that are alike have the same offers, weights and sizes.
use Rattle.std.proofs.Common.{◌≡◌, ℕ, zero, suc, ◌+◌, ◌<◌, ◌≤◌, min, max, cond, T, ltb, nat_abs, sym, refl, ap, ◌∙◌, subst, ⊎_elim, arith}
use Rattle.std.specs.Borrow.{Bor}
use Rattle.std.proofs.lemmas.Bool.{cases_lt}
use Rattle.model.specs.Model.{Model, offers, weight}
use Rattle.model.specs.Visits.{visit_after, SomeOffered}
use Rattle.model.specs.Rows.{Alike}
use Rattle.checks.specs.Limit.{most, largest_worth, largest_under, largest_in, largest_at, greatest}
use Rattle.checks.specs.Places.{EvenIn}
use Rattle.checks.specs.Asked.{Asked}
use Rattle.checks.proofs.Places.{Clear}

-- the same walk, by equal books and ends
pub asked_at : (m m' : Model) (H H' past n last : ℕ) → m' ≡ m → H' ≡ H → Asked m' H' past n last → Asked m H past n last
asked_at m m' H H' past n last e f asked = subst (λ h. Asked m h past n last) f (subst (λ x. Asked x H' past n last) e asked)

-- a walk that goes on stays at its book and its end, and asks of the next visit
pub walk_on : {X Q : Type 0} (model : X → Model) (book : X) (H : ℕ) {b b' : Bor X} {h h' past n last : ℕ} → (b' ≡ b) × (h' ≡ h) × Asked (model b.now) h past n last → b.now ≡ book → h ≡ H → (Asked (model book) H past n last → Q) → (b'.now ≡ book) × (h' ≡ H) × Q
walk_on model book H step here end next = (ap (λ b. b.now) step.0 ∙ here, step.1 ∙ end, next (asked_at (model book) _ H _ _ _ _ (ap model here) end step.2))

-- the visit is done, and with it those that are alike
pub clear_alike : (m : Model) (H : ℕ) (P : ℕ → ℕ → Type 0) (past n last : ℕ) → Asked m H past n last → ((k s : ℕ) → Alike m n k → P n s → P k s) → ((s : ℕ) → s < m.conditions → P n s) → Clear (offers m) H P past → Clear (offers m) H P last
clear_alike m H P past n last asked same here clear k s place l = ⊎_elim
    (λ a. clear k s place (omega (arith, asked.next)))
    (λ a. same k s (asked.alike k a l) (here s place.condition))
    (cases_lt k n)

most_same : (n : ℕ) (f g : ℕ → ℕ) → ((j : ℕ) → f j ≡ g j) → most n f ≡ most n g
most_same zero f g each = refl
most_same (suc n) f g each = λ i. max (most_same n f g each i) (each n i)

-- of equal ones one is enough
most_alike : (f : ℕ → ℕ) (p q : ℕ) → p < q → ((k : ℕ) → p ≤ k → k < q → f k ≡ f p) → most q f ≡ max (most p f) (f p)
most_alike f p zero l same = absurd (omega arith)
most_alike f p (suc q) l same = ⊎_elim
    (λ a. let so = most_alike f p q a (λ k low high. same k low (omega arith)) in let here : f q ≡ f p = same q (omega arith) (omega arith) in omega (arith, so, here))
    (λ a. let e : q ≡ p = omega arith in ap (λ x. max (most x f) (f x)) e)
    (cases_lt p q)

module _ (m : Model) (n k : ℕ) (a : Alike m n k) where
  pub some_alike : (s : ℕ) → SomeOffered (offers m) n s → SomeOffered (offers m) k s
  some_alike s x = (x.0, subst T (a.offered s x.0) x.1)

  weight_alike : (s r j : ℕ) → weight m n s r j ≡ weight m k s r j
  weight_alike s r zero = refl
  weight_alike s r (suc j) = λ i. weight_alike s r j i + a.share s r j i

  pub even_alike : (s : ℕ) → EvenIn m n s → EvenIn m k s
  even_alike s even r t = sym (weight_alike s r m.conditions) ∙ even r (subst T (sym (a.offered s r)) t)

  under_alike : (s r : ℕ) → largest_under m n s r ≡ largest_under m k s r
  under_alike s r = most_same m.conditions _ _ (λ j i. cond (ltb 0 (a.share s r j i)) (nat_abs (a.amount s r j i)) 0)

  in_alike : (s : ℕ) → largest_in m n s ≡ largest_in m k s
  in_alike s = most_same m.remedies _ _ (λ r i. cond (a.offered s r i) (under_alike s r i) 0)

  at_alike : largest_at m n ≡ largest_at m k
  at_alike = most_same m.conditions _ _ in_alike

-- the greatest up to the last of visits that are alike, or to the last visit
pub greatest_alike : (m : Model) (H past n last top x : ℕ) → Asked m H past n last → top ≡ greatest m (min past H) → x ≡ largest_at m n → max top x ≡ greatest m (min last H)
greatest_alike m H past n last top x asked e here =
    let f : ℕ → ℕ = λ k. largest_at m (visit_after k) in
    let first : largest_at m n ≡ f past = ap (largest_at m) asked.next in
    let whole : min past H ≡ past = omega (arith, asked.some) in
    let q : ℕ = min last H in
    let within : past < q = omega (arith, asked.some, asked.next, asked.on) in
    let each : (k : ℕ) → past ≤ k → k < q → f k ≡ f past = λ k a b. sym (at_alike m n (visit_after k) (asked.alike (visit_after k) (omega (arith, asked.next)) (omega arith))) ∙ first in
    let so : most q f ≡ max (most past f) (f past) = most_alike f past q within each in
    let top_is : top ≡ max (max (largest_worth m) 1) (most past f) = e ∙ ap (greatest m) whole in
    let x_is : x ≡ f past = here ∙ first in
    joined (max (largest_worth m) 1) (most past f) (f past) (most q f) top x top_is x_is so
  where
    joined : (a b c d top x : ℕ) → top ≡ max a b → x ≡ c → d ≡ max b c → max top x ≡ max a d
    joined a b c d top x h i j = omega arith
