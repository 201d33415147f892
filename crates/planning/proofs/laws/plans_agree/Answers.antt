use Rattle.planning.proofs.Agreeing.{plans_agree_lem}
use Rattle.planning.proofs.Judging.{judging_a_plan}
use Rattle.planning.proofs.Stuck.{plans_are_stuck_exactly}
use Rattle.planning.proofs.Determined.{plans_are_determined, judgements_are_determined}
use Rattle.planning.proofs.laws.plans_agree.Goals as goal

pub returns : goal.returns
returns g c =
    let o = g.C.Criterion.ops c.args.by.now in
    record { judging = judging_a_plan o; agree = plans_agree_lem o; stuck = plans_are_stuck_exactly o; planned = plans_are_determined o; judged = judgements_are_determined o }
