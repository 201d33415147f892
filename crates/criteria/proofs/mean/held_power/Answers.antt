use Rattle.std.proofs.Common.{◌∙◌, rules, w64, SFits}
use Rattle.std.proofs.lemmas.Int.{to_z-of_z}
use Rattle.criteria.proofs.Powers.{power_to_63}
use Rattle.criteria.proofs.mean.held_power.Goals as goal

pub returns : goal.returns
returns c =
    let e = power_to_63 c.args.base c.args.exponent in
    let fits : SFits w64 c.saturating_pow.result = search rules in
    let base : SFits w64 c.from.result = search rules in
    to_z-of_z w64 _ fits ∙ rw (to_z-of_z w64 c.from.result base, c.from.ensures, c.min.ensures) at c.saturating_pow.ensures ∙ e
