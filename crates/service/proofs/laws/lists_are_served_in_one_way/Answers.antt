use Rattle.service.proofs.Determined.{serving_is_determined_lem}
use Rattle.service.proofs.Parts.{each_is_served, parts_are_the_whole}
use Rattle.service.proofs.Unchanged.{declined_is_unchanged}
use Rattle.service.proofs.laws.lists_are_served_in_one_way.Goals as goal

pub returns : goal.returns
returns g c =
    let o = g.C.Criterion.ops in
    record { determined = serving_is_determined_lem o; each = each_is_served o; parts = parts_are_the_whole o; declined = declined_is_unchanged o }
