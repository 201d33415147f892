use Rattle.std.proofs.Common.{◌<◌, length, get_or, ap, ◌∙◌, arith, w64, SFits, rules}
use Rattle.std.proofs.lemmas.Int.{to_z-of_z}
use Rattle.std.proofs.lemmas.List.{get_or_read, take_all}
use Rattle.planning.specs.Tables.{at}
use Rattle.checks.proofs.Rows.{none_yet}
use Rattle.planning.proofs.Steps.{account_of, account_more, account_all, next_below}
use Rattle.planning.proofs.stage.Stage.account.Goals as goal

pub offset_bounds-later-outcome : goal.offset_bounds-later-outcome
offset_bounds-later-outcome g c =
    let xs = c.as_slice-outcome-items.result.now in
    let i = c.loop-outcome.outcome-index in
    let stage = c.args.self.now in
    let low : (get_or xs i none_yet).next < length stage.later.now = next_below (g.B.Book.model stage.book.now) stage.visit c.args.condition c.args.remedy _ _ xs i stage.whole (c.as_slice-outcome-items.ensures.value ∙ c.row.ensures) c.loop-outcome-test.true in
    omega (arith, low)

pub bounds-later-outcome : goal.bounds-later-outcome
bounds-later-outcome g c =
    let stage = c.args.self.now in
    next_below (g.B.Book.model stage.book.now) stage.visit c.args.condition c.args.remedy _ _ _ c.loop-outcome.outcome-index stage.whole (c.as_slice-outcome-items.ensures.value ∙ c.row.ensures) c.loop-outcome-test.true

pub loop-outcome-preserved : goal.loop-outcome-preserved
loop-outcome-preserved g c =
    let xs = c.as_slice-outcome-items.result.now in
    let i = c.loop-outcome.outcome-index in
    let stage = c.args.self.now in
    let o = g.C.Criterion.ops stage.by.now in
    let m = g.B.Book.model stage.book.now in
    let low : (get_or xs i none_yet).next < length stage.later.now = next_below m stage.visit c.args.condition c.args.remedy _ _ xs i stage.whole (c.as_slice-outcome-items.ensures.value ∙ c.row.ensures) c.loop-outcome-test.true in
    let fits : SFits w64 (get_or xs i none_yet).amount = search rules in
    c.enter-sum.ensures ∙ account_more o stage.left (at o stage.later.now) _ m.parts xs i none_yet _ _ _ c.loop-outcome-test.true c.parts-parts.ensures (to_z-of_z w64 _ fits) (get_or_read _ _ _ low c.index-later-outcome.is _) c.loop-outcome.invariant

pub returns : goal.returns
returns g c =
    let xs = c.as_slice-outcome-items.result.now in
    let stage = c.args.self.now in
    let o = g.C.Criterion.ops stage.by.now in
    let m = g.B.Book.model stage.book.now in
    c.loop-outcome.invariant
    ∙ ap (account_of o stage.left m.parts (at o stage.later.now)) (take_all c.loop-outcome.outcome-index xs c.loop-outcome-test.false)
    ∙ account_all o stage.left (at o stage.later.now) m stage.visit c.args.condition c.args.remedy m.conditions xs (c.as_slice-outcome-items.ensures.value ∙ c.row.ensures)
