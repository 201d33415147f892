use Rattle.std.proofs.Common.{◌≡◌, ◌<◌, set, arith, rules}
use Rattle.planning.specs.Tables.{Chosen}
use Rattle.planning.proofs.Tables.{entries_more}
use Rattle.planning.proofs.stage.Stage.plan_row.Goals as goal
use Rattle.planning.proofs.stage.Stage.plan_row.Goals.{in-Some, in_default}

pub loop-condition-preserved : goal.loop-condition-preserved
loop-condition-preserved g c =
    let stage = c.args.self.now in
    let o = g.C.Criterion.ops stage.by.now in
    let m = g.B.Book.model stage.book.now in
    let s = c.loop-condition.condition in
    let low : s < m.conditions = omega arith in
    elim c.match-best.branch [
      | in-Some w ↦
          let kept : c.match-best.values ≡ set c.loop-condition.values s w.in-Some.value = search rules in
          entries_more (λ s r v. Chosen o m stage.visit stage.left s stage.later.now r v) _ s c.loop-condition.values _ c.loop-condition.remedies _ w.in-Some.remedy w.in-Some.value (omega arith) (omega arith) kept w.remedies-is w.in-Some.ensures c.loop-condition.invariant
      | in_default w ↦
          let found = c.requires.offers s low in
          let inside = ((g.B.Book.lawful stage.book.now).offered_inside stage.visit s found.0 found.1).some_remedy in
          absurd (w.in_default.ensures found.0 inside found.1)
    ]
