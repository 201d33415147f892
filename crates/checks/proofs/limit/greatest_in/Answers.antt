use Rattle.std.proofs.Common.{ℕ, Bool, ◌≡◌, cond, filter, unwrap_or, ap, ◌∙◌, arith, rules, tests}
use Rattle.std.specs.List.{range_with_len}
use Rattle.std.proofs.lemmas.Iterator.{YieldsList-from_range}
use Rattle.std.proofs.lemmas.Iterator.Consumers.{YieldsList-at, YieldsList-from_filter, reduce_from_yields_List}
use Rattle.std.proofs.lemmas.List.Folds.{max_of_map}
use Rattle.checks.specs.Limit.{most, largest_under}
use Rattle.checks.proofs.Peaks.{filtered_is_most}
use Rattle.checks.proofs.Kept.{YieldsList-from_kept_map}
use Rattle.checks.proofs.limit.greatest_in.Goals as goal

pub returns : goal.returns
returns g c =
    let k = c.remedies.result in
    let b = c.args.book.now in
    let m = g.B.Book.model b in
    let n = c.args.visit in
    let s = c.args.condition in
    let h : ℕ → ℕ = largest_under m n s in
    let test : ℕ → Bool = m.offered n s in
    c.unwrap_or.ensures ∙ ap (λ o. unwrap_or o 0) (reduce_from_yields_List _ c.map.result _ c.max.ensures.ran
    (YieldsList-from_kept_map _ _ _ h (λ f. (f.0.now ≡ b) × (f.1.now ≡ n) × (f.2.now ≡ s)) (λ f x r q i k. search (rules, tests)) _ _ (search rules)
    (YieldsList-at c.map.ensures.source (YieldsList-from_filter _ test (YieldsList-from_range 0 k k c.filter.ensures.source (omega arith)) c.filter.ensures.closure (λ x b q k. search (rules, tests))))))
    ∙ max_of_map h (filter test (range_with_len 0 k)) ∙ filtered_is_most test h k ∙ ap (λ k. most k (λ r. cond (test r) (h r) 0)) c.remedies.ensures
