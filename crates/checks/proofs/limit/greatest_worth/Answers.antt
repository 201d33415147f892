use Rattle.std.proofs.Common.{ℕ, unwrap_or, nat_abs, ap, ◌∙◌, arith, rules, tests}
use Rattle.std.specs.List.{range_with_len}
use Rattle.std.proofs.lemmas.Iterator.{YieldsList-from_range, YieldsList-from_map}
use Rattle.std.proofs.lemmas.Iterator.Consumers.{reduce_from_yields_List}
use Rattle.std.proofs.lemmas.List.Folds.{max_of_map}
use Rattle.checks.specs.Limit.{most}
use Rattle.checks.proofs.Peaks.{fold_is_most}
use Rattle.checks.proofs.limit.greatest_worth.Goals as goal

pub returns : goal.returns
returns g c =
    let n = c.conditions.result in
    let f : ℕ → ℕ = λ s. nat_abs ((g.B.Book.model c.args.book.now).worth s) in
    c.unwrap_or.ensures ∙ ap (λ o. unwrap_or o 0) (reduce_from_yields_List _ c.map.result _ c.max.ensures.ran (YieldsList-from_map _ f (YieldsList-from_range 0 n n c.map.ensures.source (omega arith)) c.map.ensures.closure (λ x b q k. search (rules, tests)))) ∙ max_of_map f (range_with_len 0 n) ∙ fold_is_most f n ∙ ap (λ k. most k f) c.conditions.ensures
