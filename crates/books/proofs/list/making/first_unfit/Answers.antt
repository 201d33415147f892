use Rattle.std.proofs.Common.{ℕ, ◌<◌, ◌≤◌, length, Some, None, Option, MatchOption, arith, rules}
use borrow.Author.Tests.{tests}
use Rattle.std.proofs.lemmas.Iterator.{first_from_Range}
use Rattle.books.specs.Making.{FirstFailing, Entered}
use Rattle.books.proofs.list.making.first_unfit.Goals as goal

-- what `find` says of the numbers below n
first_failing : (P : ℕ → Type 0) (n : ℕ) (r : Option ℕ) → MatchOption r ((k : ℕ) → 0 ≤ k → k < n → P k) (λ i. (0 ≤ i) × (i < n) × (P i → ⊥) × ((k : ℕ) → 0 ≤ k → k < i → P k)) → FirstFailing P n r
first_failing P n None all = λ i. all i (omega arith)
first_failing P n (Some i) (from, l, fails, all) = (l, fails, λ k. all k (omega arith))

pub returns : goal.returns
returns c =
    let P : ℕ → Type 0 = Entered c.args.sizes.conditions c.args.sizes.remedies c.args.sizes.parts c.args.records.now in
    first_failing P (length c.args.records.now) c.find.result (first_from_Range _ _ _ c.find.result (λ i. P i → ⊥) P c.find.ensures.ran (λ x q k. search (rules, tests)) (λ x q k. search (rules, tests)))
