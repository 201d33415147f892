use Rattle.std.proofs.Common.{◌≡◌, ◌-◌, ◌≤◌, length, arith}
use Rattle.std.proofs.lemmas.List.{length-take, length-drop}
use Rattle.planning.specs.Tables.{Valued}
use Rattle.planning.proofs.Tables.{row_within, rows_closed, row_written, row_stays}
use Rattle.planning.proofs.judge.fill_values.Goals as goal

pub loop-past-init : goal.loop-past-init
loop-past-init g c =
    let o = g.C.Criterion.ops c.args.by.now in
    let m = g.B.Book.model c.args.book.now in
    rows_closed o m (Valued o m) c.args.visits c.conditions-conditions.result _ _ _ _ c.conditions-conditions.ensures (omega arith) c.requires.values_room c.close_row.auto.values c.close_row.ensures

pub loop-past-preserved : goal.loop-past-preserved
loop-past-preserved g c =
    let o = g.C.Criterion.ops c.args.by.now in
    let m = g.B.Book.model c.args.book.now in
    let c' = c.conditions-conditions.result in
    let p = c.loop-past.past in
    let low : p ≤ c.args.visits = c.loop-past.auto.past in
    let long : length c.judge_row.new.values ≡ c' = omega (arith, simp (length-take, length-drop) at c.judge_row.auto.values) in
    let s = c.new-stage.ensures in
    row_written o m (Valued o m) c.args.visits p c' _ _ c.loop-past.values _ _ c.judge_row.new.values _ c.args.remedies.now _ _ (omega arith) low c.conditions-conditions.ensures (omega arith) c.split_at_mut-before.ensures.front_len c.split_at_mut-before.ensures.back long
    (row_stays (p - 1) m.conditions c' _ c.args.remedies.now c.conditions-conditions.ensures (omega arith) (row_within (p - 1) c.args.visits m.conditions _ (omega arith) c.requires.remedies_room))
    (rw (s.book, s.by, s.visit, s.left, s.later) at c.judge_row.ensures)
    c.loop-past.invariant
