-- Sums of what notes add, along a chain.
use Rattle.std.proofs.Common.{◌≡◌, ℕ, ◌+◌, ◌*◌, ◌<◌, ◌≤◌, List, [], ◌∷◌, length, take, map, ℤ, pos, negsuc, ◌+ℤ◌, nat_abs, fold, sym, ap, ◌∙◌, subst, arith, length-take, Option, w64, SFits}
use lib.IntN.{+ℤ_assoc, +ℤ_idr}
use Rattle.std.specs.Int.{saturate_to_bits}
use Rattle.std.specs.Iterator.Runs.{YieldsRun, EachRunFrom}
use Rattle.std.specs.Iterator.{Yields, Drains}
use Rattle.std.specs.Bool.{⊤}
use Rattle.std.proofs.lemmas.Int.{ints}
use Rattle.std.proofs.lemmas.List.{map-id, take-map}
use Rattle.std.proofs.lemmas.Iterator.{YieldsList, items_from_drains}
use Rattle.std.proofs.lemmas.Iterator.Consumers.{YieldsList-so_far}
use Rattle.sheets.specs.declared.note.Note.{Note}
use Rattle.sheets.specs.Notes.{charge, surcharged}

-- Every amount comes as 32 bits, so a chain that yields amounts yields these as well, and of these the sum is known to fit.
abbrev pub in_32 : ℤ → ℤ
in_32 z = saturate_to_bits 31 z

one_more : (a z : ℤ) → nat_abs (a +ℤ in_32 z) ≤ nat_abs a + 2147483648
one_more a (pos n) = omega (arith, ints)
one_more a (negsuc n) = omega (arith, ints)

sum_size : (f : Note → ℤ) (ns : List Note) (a : ℤ) → nat_abs (fold ◌+ℤ◌ a (map (λ x. in_32 (f x)) ns)) ≤ nat_abs a + 2147483648 * length ns
sum_size f [] a = omega arith
sum_size f (x ∷ ns) a = omega (arith, one_more a (f x), sum_size f ns (a +ℤ in_32 (f x)))

-- 24 of them and fewer add up to no more than this
pub sum_small : (f : Note → ℤ) (ns : List Note) → length ns ≤ 24 → nat_abs (fold ◌+ℤ◌ (pos 0) (map (λ x. in_32 (f x)) ns)) < 100000000000
sum_small f ns few = omega (arith, sum_size f ns (pos 0))

pub sum_fits : (f : Note → ℤ) (ns : List Note) (n : ℕ) → length ns ≤ 24 → SFits w64 (fold ◌+ℤ◌ (pos 0) (take n (map (λ x. in_32 (f x)) ns)))
sum_fits f ns n few = rw (take-map (λ x. in_32 (f x)) n ns) (let h = sum_small f (take n ns) (omega (arith, length-take n ns)) in omega (arith, ints))

pub fold_charges : (ns : List Note) (n r : ℕ) (a : ℤ) → fold ◌+ℤ◌ a (map (λ x. charge x n r) ns) ≡ a +ℤ surcharged ns n r
fold_charges [] n r a = sym (+ℤ_idr a)
fold_charges (x ∷ ns) n r a = fold_charges ns n r (a +ℤ charge x n r) ∙ +ℤ_assoc a (charge x n r) (surcharged ns n r)

module _ {S A : Type 0} {steps : S → Option A → S → Type 0} {all : List A} (s : S) where
  -- what holds of each beginning of the list holds of what a run has given
  pub each_run : (P : List A → Type 0) → ((n : ℕ) → P (take n all)) → YieldsList steps (λ x. x) s all → EachRunFrom steps s (λ p. P p.items)
  unfolding YieldsRun
  each_run P h e = λ p _ at. subst P (sym (YieldsList-so_far e p.items p.gave.0.0 (subst (λ u. Yields steps u p.items p.gave.0.0) at p.gave.0.1)) ∙ map-id p.items) (h (length p.items))

pub drained_sum : {S : Type 0} {steps : S → Option ℤ → S → Type 0} {all : List ℤ} (s : S) (r : ℤ) → ((xs : List ℤ) × (⊤ → Drains steps s xs) × (r ≡ fold ◌+ℤ◌ (pos 0) xs)) → YieldsList steps (λ x. x) s all → r ≡ fold ◌+ℤ◌ (pos 0) all
drained_sum s r d e =
    let end = d.1 tt in
    d.2 ∙ ap (fold ◌+ℤ◌ (pos 0)) (sym (map-id d.0) ∙ items_from_drains d.0 (end.1.0, end.1.1, λ _. (end.0, end.1.2)) e)
