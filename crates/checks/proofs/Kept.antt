-- Chains whose closure changes what it captures, but not what its answers depend on.
use Rattle.std.proofs.Common.{◌≡◌, ℕ, ◌<◌, ◌≤◌, Bool, true, false, List, [], ◌∷◌, map, Option, Some, None, MatchOption, ap, ◌∙◌, sym, subst, ⊎_elim, arith}
use Rattle.std.specs.Borrow.{Bor}
use Rattle.std.specs.Fn.{Called, CalledAt}
use Rattle.std.specs.List.{FoldsTo}
use Rattle.std.specs.Iterator.{AlwaysYields, YieldsThen}
use Rattle.std.specs.Iterator.Adapters.{map_source, map_callee}
use Rattle.std.specs.declared.ops.Range.{Range}
use Rattle.std.proofs.iter.Yields.{nat_range_steps}
use Rattle.std.proofs.lemmas.Bool.{cases_lt}
use Rattle.std.proofs.lemmas.Iterator.{YieldsList, maps}
use denote.Param.Members.{Mut}

module _ {S A B F R : Type 0} (steps : S → Option A → S → Type 0) (v : A → B) (g : Mut F (A × Unit {0}) R) (h : B → R) (I : F → Type 0) (keeps : (f : F) (x : A) (r : R) (q : F) → I f → Called g f (x, tt) r q → I q × (r ≡ h (v x))) where
  each : (ys : List B) (s : _) → I (map_callee s) → AlwaysYields steps v (map_source s) ys → AlwaysYields (maps steps g) (λ r. r) s (map h ys)
  each [] s i e = λ r t k. e k.0 (map_source t) k.1
  each (y ∷ ys) s i e = (
    (λ t k. e.0 (map_source t) k.0),
    λ r t k. let now = e.1 k.0 (map_source t) k.1 in let call = keeps (map_callee s) k.0 r (map_callee t) i k.2 in (call.1 ∙ ap h now.0, each ys t call.0 now.1),
  )

  -- I holds of the closure at the start and after each call, and while it holds the closure answers h
  pub YieldsList-from_kept_map : (s : _) (ys : List B) → I (map_callee s) → YieldsList steps v (map_source s) ys → YieldsList (maps steps g) (λ r. r) s (map h ys)
  YieldsList-from_kept_map s ys i e = record { runs = each ys s i e.runs }

-- `find` over a range, with such a closure
module _ {F : Type 0} (g : Mut F (Bor ℕ × Unit {0}) Bool) (I : F → Type 0) (Yes No : ℕ → Type 0) (yes : (f : F) (x : ℕ) (q : F) → I f → CalledAt g f x true q → Yes x) (no : (f : F) (x : ℕ) (q : F) → I f → CalledAt g f x false q → I q × No x) where
  passed : (s : Range ℕ) (r : Option ℕ) → Type 0
  passed s r = MatchOption r ((k : ℕ) → s.start ≤ k → k < s.end → No k) (λ i. (s.start ≤ i) × (i < s.end) × Yes i × ((k : ℕ) → s.start ≤ k → k < i → No k))

  one_more : (s t : Range ℕ) (x : ℕ) (r : Option ℕ) → nat_range_steps s (Some x) t → No x → passed t r → passed s r
  unfolding passed
  one_more s t x None step here rest = λ k a b. ⊎_elim
      (λ l. rest k (omega (arith, step.1.2)) (omega (arith, step.0)))
      (λ l. let same : x ≡ k = omega (arith, step.1.1) in subst No same here)
      (cases_lt s.start k)
  one_more s t x (Some i) step here rest = (
    omega (arith, step.1.2, rest.0),
    omega (arith, step.0, rest.1),
    rest.2,
    λ k a b. ⊎_elim
        (λ l. rest.3 k (omega (arith, step.1.2)) b)
        (λ l. let same : x ≡ k = omega (arith, step.1.1) in subst No same here)
        (cases_lt s.start k),
  )

  last_one : (s u : Range ℕ) (f : F) (r : Option ℕ) → I f → nat_range_steps s r u → MatchOption r (Unit {0}) (λ x. (h : F) × CalledAt g f x true h) → passed s r
  unfolding passed
  last_one s u f None i step m = λ k a b. absurd (omega (arith, step.1.0))
  last_one s u f (Some x) i step m = (omega (arith, step.1.1), omega (arith, step.1.0, step.1.1), yes f x m.0 i m.1, λ k a b. absurd (omega (arith, step.1.1)))

  over : (xs : List ℕ) (s u : Range ℕ) (f j : F) (r : Option ℕ) → I f → YieldsThen nat_range_steps s xs r u → FoldsTo (λ p x q. CalledAt g p x false q) f xs j → MatchOption r (Unit {0}) (λ x. (h : F) × CalledAt g j x true h) → passed s r
  over [] s u f j r i y c m = subst (λ t. passed t r) (sym y.1) (last_one y.0 u f r i y.2 (subst (λ p. MatchOption r (Unit {0}) (λ x. (h : F) × CalledAt g p x true h)) (sym c) m))
  over (x ∷ xs) s u f j r i y c m = let now = no f x c.0 i c.1 in one_more s y.1.0 x r y.1.1 now.1 (over xs y.1.0 u c.0 j r now.0 (y.0, y.1.2, y.2) c.2 m)

  pub first_from_kept_find : (n : ℕ) (u : Range ℕ) (f : F) (r : Option ℕ) → I f
      → (xs : List ℕ) × (j : F) × YieldsThen nat_range_steps (record { start = 0; end = n }) xs r u × FoldsTo (λ p x q. CalledAt g p x false q) f xs j × MatchOption r (Unit {0}) (λ x. (h : F) × CalledAt g j x true h)
      → MatchOption r ((k : ℕ) → 0 ≤ k → k < n → No k) (λ i. (0 ≤ i) × (i < n) × Yes i × ((k : ℕ) → 0 ≤ k → k < i → No k))
  unfolding passed
  first_from_kept_find n u f r i d = over d.0 (record { start = 0; end = n }) u f d.1 r i d.2 d.3 d.4
