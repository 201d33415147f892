use Rattle.std.proofs.Common.{unwrap_or, nat_abs, ap, ◌∙◌, rules, tests}
use Rattle.std.proofs.lemmas.Iterator.{YieldsList-from_slice, YieldsList-from_map}
use Rattle.std.proofs.lemmas.Iterator.Consumers.{reduce_from_yields_List}
use Rattle.std.proofs.lemmas.List.Folds.{max_of_map}
use Rattle.checks.proofs.limit.greatest_amount.Goals as goal

pub returns : goal.returns
returns c =
    let xs = c.args.outcomes.now in
    c.unwrap_or.ensures ∙ ap (λ o. unwrap_or o 0) (reduce_from_yields_List _ c.map.result _ c.max.ensures.ran (YieldsList-from_map _ (λ x. nat_abs x.amount) (YieldsList-from_slice xs cc) c.map.ensures.closure (λ x b q k. search (rules, tests)))) ∙ max_of_map (λ x. nat_abs x.amount) xs
