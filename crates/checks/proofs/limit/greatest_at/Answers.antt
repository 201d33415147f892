use Rattle.std.proofs.Common.{ℕ, ◌≡◌, unwrap_or, ap, ◌∙◌, arith, rules, tests}
use Rattle.std.specs.List.{range_with_len}
use Rattle.std.proofs.lemmas.Iterator.{YieldsList-from_range}
use Rattle.std.proofs.lemmas.Iterator.Consumers.{reduce_from_yields_List}
use Rattle.std.proofs.lemmas.List.Folds.{max_of_map}
use Rattle.checks.specs.Limit.{most, largest_in}
use Rattle.checks.proofs.Peaks.{fold_is_most}
use Rattle.checks.proofs.Kept.{YieldsList-from_kept_map}
use Rattle.checks.proofs.limit.greatest_at.Goals as goal

pub returns : goal.returns
returns g c =
    let n = c.conditions.result in
    let b = c.args.book.now in
    let m = g.B.Book.model b in
    let h : ℕ → ℕ = largest_in m c.args.visit in
    c.unwrap_or.ensures ∙ ap (λ o. unwrap_or o 0) (reduce_from_yields_List _ c.map.result _ c.max.ensures.ran (YieldsList-from_kept_map _ _ _ h (λ f. (f.0.now ≡ b) × (f.1.now ≡ c.args.visit)) (λ f x r q i k. search (rules, tests)) _ _ (search rules) (YieldsList-from_range 0 n n c.map.ensures.source (omega arith)))) ∙ max_of_map h (range_with_len 0 n) ∙ fold_is_most h n ∙ ap (λ k. most k h) c.conditions.ensures
