use Rattle.std.proofs.Common.{◌≡◌, ℕ, ◌+◌, ◌-◌, ◌<◌, ◌≤◌, Bool, true, false, List, length, get_or, take, drop, sym, subst, ap, ◌∙◌, arith, rules, length-take, length-drop}
use borrow.Author.Tests.{tests}
use Rattle.std.specs.Prelude.{MatchBool}
use Rattle.std.specs.List.{AllWithin, HoldsAt}
use Rattle.std.proofs.lemmas.Iterator.{cases_from_any, YieldsList-from_slice}
use Rattle.std.proofs.lemmas.List.{get_or-take, get_or-drop}
use Rattle.books.specs.Alike.{some_above}
use Rattle.books.specs.Tables.{spot}
use Rattle.books.proofs.Lookups.{above_at, above_none}
use Rattle.books.proofs.table.TableBook.some_share.Goals as goal

module _ (shares : List ℕ) (c r s x m : ℕ) (start : m ≡ spot c r s x 0) (inside : m + c ≤ length shares) where
  abbrev row : List ℕ
  row = take (m + c - m) (drop m shares)

  long : length row ≡ c
  long = omega (arith, length-take {A = ℕ}, length-drop {A = ℕ})

  in_row : (k : ℕ) → k < c → get_or row k 0 ≡ get_or shares (spot c r s x k) 0
  in_row k l =
      let there : m + k ≡ spot c r s x k = omega arith in
      get_or-take (m + c - m) (drop m shares) k 0 (omega arith) ∙ get_or-drop m shares k 0 ∙ ap (λ i. get_or shares i 0) there

  some_in_row : (b : Bool) → MatchBool b ((k : ℕ) × (k < length row) × HoldsAt (λ y. 0 < y) row k) (AllWithin (λ y. y ≡ 0) row 0 (length row)) → b ≡ some_above (λ j. get_or shares (spot c r s x j) 0) c
  some_in_row true (k, l, some) =
      let inside : k < c = omega (arith, long) in
      sym (above_at _ c k inside (subst (λ (n : ℕ). 0 < n) (in_row k inside) (some 0)))
  some_in_row false none = sym (above_none _ c (λ k l. sym (in_row k l) ∙ none k 0 (omega arith) (omega (arith, long))))

pub returns : goal.returns
returns c =
    let book = c.args.self.now in
    some_in_row book.shares.now book.sizes.conditions book.sizes.remedies c.args.condition c.args.remedy c.first_of-first.result c.first_of-first.ensures.value (omega arith) _ (cases_from_any _ _ c.any.result (λ y. 0 < y) (λ y. y ≡ 0) c.any.ensures.ran (YieldsList-from_slice _ c.iter.ensures.rest) (λ x q k. search (rules, tests)) (λ x q k. search (rules, tests)))
