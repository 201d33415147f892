-- Searching visit by visit: what holds of every place at the visits that are done.
use Rattle.std.proofs.Common.{◌≡◌, ℕ, ◌+◌, ◌*◌, ◌-◌, ◌<◌, ◌≤◌, ◌^◌, min, ◌++◌, Bool, true, false, T, List, length, get_or, drop, Option, Some, None, MatchBool, MatchOption, ap, ◌∙◌, subst, sym, ⊎_elim, add-mul, zero-mul, one-mul, mul-le-mul_right, get_or-drop, length-drop, drop_at, drop-drop, zero-add, arith}
use Rattle.std.specs.List.{range_with_len, HoldsAt, AllWithin}
use Rattle.std.proofs.lemmas.Bool.{cases_lt}
use Rattle.std.proofs.lemmas.List.{get_or_append_left}
use Rattle.std.proofs.lemmas.List.FromFn.{length-range_with_len, get_or-range_with_len}
use Rattle.model.specs.Model.{Model, Offers, Lawful}
use Rattle.model.specs.Visits.{visit_after, Place, Before, SomeOffered, Unoffered, Uneven}
use Rattle.checks.specs.Places.{named, EvenUnder, FirstOf, FirstUnevenIn, FirstMisnamed, FirstMisnamedAt}

-- P holds of every place at the first visits
abbrev pub Clear : Offers → ℕ → (ℕ → ℕ → Type 0) → ℕ → Type 0
Clear o H P past = (n s : ℕ) → Place o H n s → n ≤ past → P n s

-- the table names an offered remedy at a place
abbrev pub NamedIn : Offers → List ℕ → (n s : ℕ) → Type 0
NamedIn o rs n s = T (o.offered n s (named o rs n s))

module _ (o : Offers) (H : ℕ) (P : ℕ → ℕ → Type 0) where
  -- one visit more
  pub clear_more : (past n : ℕ) → n ≡ visit_after past → ((s : ℕ) → s < o.conditions → P n s) → Clear o H P past → Clear o H P (past + 1)
  clear_more past n e here clear k s place l = ⊎_elim
      (λ a. clear k s place (omega arith))
      (λ a. let same : n ≡ k = omega arith in subst (λ x. P x s) same (here s place.condition))
      (cases_lt k n)

  -- and what comes before a condition of it
  pub clear_before : (past n s : ℕ) → n ≡ visit_after past → ((j : ℕ) → j < s → P n j) → Clear o H P past → (n' s' : ℕ) → Place o H n' s' → Before n' s' n s → P n' s'
  clear_before past n s e here clear n' s' place b = ⊎_elim
      (λ l. clear n' s' place (omega arith))
      (λ a. subst (λ x. P x s') (sym a.0) (here s' a.1))
      b

-- what `find` says over a range from 0
pub found_below : (found : Option ℕ) (k n : ℕ) (Yes No : ℕ → Type 0) → k ≡ n →
    MatchOption found ((j : ℕ) → 0 ≤ j → j < k → No j) (λ i. (0 ≤ i) × (i < k) × Yes i × ((j : ℕ) → 0 ≤ j → j < i → No j)) →
    MatchOption found ((j : ℕ) → j < n → No j) (λ i. (i < n) × Yes i × ((j : ℕ) → j < i → No j))
found_below None k n Yes No e h = λ j l. h j (omega arith) (omega arith)
found_below (Some i) k n Yes No e h = (omega (arith, h.1), h.2, λ j l. h.3 j (omega arith) l)

-- the first remedy that is uneven is the lowest of all, for none is offered beyond the last
pub lowest_uneven : (m : Model) (n s : ℕ) (found : Option ℕ) → Lawful m → FirstOf (λ r. r) m.remedies (EvenUnder m n s) (Uneven m n s) found → FirstUnevenIn m n s found
lowest_uneven m n s None lawful h = λ r t. h r (lawful.offered_inside n s r t).some_remedy t
lowest_uneven m n s (Some r) lawful h = (h.1, λ k l u. u.1 (h.2 k l u.0))

-- what `any` says over a range from 0, of the remedies that are offered
pub offered_below : (o : Offers) (n s k : ℕ) (r : Bool) → k ≡ o.remedies → ((i : ℕ) → T (o.offered n s i) → i < o.remedies) →
    MatchBool r ((i : ℕ) × (i < length (range_with_len 0 k)) × HoldsAt (λ x. T (o.offered n s x)) (range_with_len 0 k) i) (AllWithin (λ x. T (o.offered n s x) → ⊥) (range_with_len 0 k) 0 (length (range_with_len 0 k))) →
    MatchBool r (SomeOffered o n s) (Unoffered o n s)
offered_below o n s k true e inside h = (get_or (range_with_len 0 k) h.0 0, h.2 0)
offered_below o n s k false e inside h = λ i t.
    let low : i < k = omega (arith, inside i t) in
    let here = get_or-range_with_len 0 k i 0 low ∙ zero-add i in
    h i 0 (omega arith) (omega (arith, length-range_with_len 0 k)) (subst (λ x. T (o.offered n s x)) (sym here) t)

-- of a table cut in H parts of a length, what is left to come past the first of them
pub record PartsToCome (rs : List ℕ) (H long past left size : ℕ) (rest : List ℕ) : Type 0 where
  pub whole : past + left ≡ H
  pub sized : size ≡ long
  pub cut : rest ≡ drop (past * long) rs

-- before the first of them
pub all_to_come : (rs : List ℕ) (H : ℕ) {long past left size : ℕ} {rest : List ℕ} → past ≡ 0 → left ≡ H → size ≡ long → rest ≡ rs → PartsToCome rs H long past left size rest
all_to_come rs H {long} {past} none whole sized all =
    let start : 0 ≡ past * long = omega (arith, ap (λ k. k * long) none, zero-mul long) in
    record { whole = omega (arith, none, whole); sized = sized; cut = all ∙ ap (λ k. drop k rs) start }

-- one part more, and what is said of it
module _ (o : Offers) (rs : List ℕ) (H : ℕ) {long past left size past' size' row n : ℕ} {rest : List ℕ} {X : Type 0} (left' : ℕ) (part rest' : List ℕ) (all : long ≡ o.conditions) (visit : n ≡ min (visit_after row) (2 ^ 64 - 1)) (parts : PartsToCome rs H long past left size rest)
    (step : (((size' ≡ size) × ((rest ≡ part ++ rest') × (length part ≡ size)) × X) × (left' + 1 ≡ left)) × (row ≡ past) × (past' ≡ past + 1) × (row + 1 < 2 ^ 64)) (clear : Clear o H (NamedIn o rs) past) where
  visit_next : n ≡ visit_after past
  visit_next = omega (arith, visit, step.1, step.3)

  part_long : length part ≡ long
  part_long = step.0.0.1.1 ∙ parts.sized

  part_cut : drop (past * long) rs ≡ part ++ rest'
  part_cut = sym parts.cut ∙ step.0.0.1.0

  part_names : (s : ℕ) → s < o.conditions → get_or part s 0 ≡ named o rs n s
  part_names s l =
      let start : past * long ≡ (n - 1) * o.conditions = ap (λ x. past * x) all ∙ ap (λ x. x * o.conditions) (omega (arith, visit_next)) in
      sym (get_or_append_left part rest' 0 s (omega (arith, part_long, all))) ∙ ap (λ xs. get_or xs s 0) (sym part_cut) ∙ get_or-drop _ rs s 0 ∙ ap (λ x. get_or rs (x + s) 0) start

  pub misnamed_in_part : (s r : ℕ) → FirstMisnamedAt o n part (Some (s, r)) → FirstMisnamed o rs H n s r
  misnamed_in_part s r found =
      let inside : s < o.conditions = omega (arith, found.0, part_long, all) in
      record {
        place = record { from = omega (arith, visit_next); to = omega (arith, visit_next, parts.whole, step.0.1); condition = inside };
        names = found.1.0 ∙ part_names s inside;
        not_offered = found.1.1;
        first = clear_before o H (NamedIn o rs) past n s visit_next (λ j l. subst (λ r. T (o.offered n j r)) (part_names j (omega (arith, inside))) (found.2 j l)) clear;
      }

  pub part_well_named : FirstMisnamedAt o n part None → PartsToCome rs H long past' left' size' rest' × Clear o H (NamedIn o rs) past'
  part_well_named each =
      let on : past * long + long ≡ past' * long = omega (arith, add-mul past 1 long, one-mul long, ap (λ x. x * long) step.2) in
      let cut : rest' ≡ drop (past' * long) rs = sym (drop_at part rest' long part_long) ∙ ap (drop long) (sym part_cut) ∙ drop-drop long (past * long) rs ∙ ap (λ x. drop x rs) on in
      let clear_then = clear_more o H (NamedIn o rs) past n visit_next (λ s l. subst (λ r. T (o.offered n s r)) (part_names s l) (each s (omega (arith, part_long, all)))) clear in
      (record { whole = omega (arith, parts.whole, step.0.1, step.2); sized = step.0.0.0 ∙ parts.sized; cut = cut }, subst (Clear o H (NamedIn o rs)) (sym step.2) clear_then)

-- where no part is left, every visit has had its own
pub no_part_left : (rs : List ℕ) (H : ℕ) {long past left size : ℕ} {rest : List ℕ} → H * long ≤ length rs → PartsToCome rs H long past left size rest → (0 < left → length rest < size) → H ≤ past
no_part_left rs H {long} {past} {left} room parts short = ⊎_elim
    (λ l.
    let on : past + 1 ≤ H = omega (arith, parts.whole) in
    absurd (omega (arith, short l, parts.sized, ap length parts.cut, room, length-drop (past * long) rs, mul-le-mul_right long on, add-mul past 1 long, one-mul long)))
    (λ l. omega (arith, parts.whole))
    (cases_lt 0 left)
