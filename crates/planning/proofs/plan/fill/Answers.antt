use Rattle.std.proofs.Common.{◌≡◌, ◌-◌, ◌*◌, ◌≤◌, length, arith}
use Rattle.std.proofs.lemmas.List.{length-take, length-drop}
use Rattle.planning.specs.Tables.{Chosen}
use Rattle.planning.proofs.Tables.{row_within, rows_closed, row_written, row_put}
use Rattle.planning.proofs.plan.fill.Goals as goal

pub loop-past-init : goal.loop-past-init
loop-past-init g c =
    let o = g.C.Criterion.ops c.args.by.now in
    let m = g.B.Book.model c.args.book.now in
    rows_closed o m (Chosen o m) c.args.visits c.conditions-conditions.result _ _ _ _ c.conditions-conditions.ensures (omega arith) c.requires.order.values_room c.close_row.auto.values c.close_row.ensures

pub loop-past-preserved : goal.loop-past-preserved
loop-past-preserved g c =
    let o = g.C.Criterion.ops c.args.by.now in
    let m = g.B.Book.model c.args.book.now in
    let c' = c.conditions-conditions.result in
    let p = c.loop-past.past in
    let low : p ≤ c.args.visits = c.loop-past.auto.past in
    let long : length c.plan_row.new.values ≡ c' = omega (arith, simp (length-take, length-drop) at c.plan_row.auto.values) in
    let long_r : length c.plan_row.new.remedies ≡ c' = omega (arith, simp (length-take, length-drop) at c.plan_row.auto.remedies) in
    let room : c.args.visits * m.conditions ≤ length c.loop-past.remedies = omega (arith, c.requires.order.remedies_room, c.loop-past.auto.remedies) in
    let s = c.new-stage.ensures in
    row_written o m (Chosen o m) c.args.visits p c' _ _ c.loop-past.values _ _ c.plan_row.new.values _ c.loop-past.remedies c.plan_row.new.remedies _ (omega arith) low c.conditions-conditions.ensures (omega arith) c.split_at_mut-before.ensures.front_len c.split_at_mut-before.ensures.back long
    (row_put (p - 1) m.conditions c' _ c.loop-past.remedies c.plan_row.new.remedies c.conditions-conditions.ensures (omega arith) (row_within (p - 1) c.args.visits m.conditions _ (omega arith) room) long_r)
    (rw (s.book, s.by, s.visit, s.left, s.later) at c.plan_row.ensures)
    c.loop-past.invariant

pub plan_row-requires-clause-offers : goal.plan_row-requires-clause-offers
plan_row-requires-clause-offers g c =
    let e = c.new-stage.ensures in
    rw (e.book, e.visit) (λ s l. c.requires.offers _ s (record { from = omega arith; to = omega arith; condition = l }))
