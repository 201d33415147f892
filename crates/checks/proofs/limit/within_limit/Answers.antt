use Rattle.std.proofs.Common.{◌≡◌, ◌-◌, ◌*◌, ◌^◌, min, ap, ◌∙◌, rules}
use Rattle.checks.proofs.Products.{power_to_128, held_decides}
use Rattle.checks.proofs.limit.within_limit.Goals as goal

pub returns : goal.returns
returns c =
    let power : c.saturating_pow.result ≡ min (c.args.parts ^ c.args.visits) (2 ^ 128 - 1) = rw (c.from.ensures, c.min.ensures) at c.saturating_pow.ensures ∙ power_to_128 c.args.parts c.args.visits in
    let whole = held_decides c.args.parts c.args.visits c.args.peak _ _ _ power c.saturating_mul.ensures (c.saturating_mul-product.ensures ∙ ap (λ x. min (c.saturating_mul.result * x) (2 ^ 128 - 1)) c.from-2.ensures) in
    search rules
