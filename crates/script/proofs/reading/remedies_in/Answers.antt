use Rattle.std.proofs.Common.{◌≡◌, suc, ◌+◌, ◌-◌, arith}
use Rattle.std.proofs.lemmas.Result.{err_from_is_err_and}
use Rattle.script.proofs.Tabled.{none_read, one_more, one_faulty}
use Rattle.script.proofs.reading.remedies_in.Goals as goal

pub loop-init : goal.loop-init
loop-init c =
    let e : c.args.count - 0 ≡ c.args.count = omega arith in
    rw (e, c.new-remedies.ensures.items) (none_read c.args.count c.args.fields.line c.args.fields.place c.args.fields.rest.now)

pub returns-in_err-natural : goal.returns-in_err-natural
returns-in_err-natural c =
    let p = err_from_is_err_and c.from_residual.result c.from_residual.ensures.1 in
    let e : c.args.count - c.loop.counter ≡ suc (c.args.count - (c.loop.counter + 1)) = omega arith in
    rw (p.1, p.2) (one_faulty (rw e at c.loop.invariant) c.cut.ensures.field c.in_err-natural.ensures.read)

pub loop-preserved : goal.loop-preserved
loop-preserved c =
    let e : c.args.count - c.loop.counter ≡ suc (c.args.count - (c.loop.counter + 1)) = omega arith in
    rw c.in_ok-push.ensures.items (one_more c.in_ok-natural.field-0 (rw e at c.loop.invariant) c.requires c.cut.ensures.field c.cut.ensures.after c.in_ok-natural.ensures.read)
