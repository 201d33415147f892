use Rattle.std.proofs.Common.{◌<◌, length, ◌∙◌, arith}
use Rattle.std.proofs.lemmas.List.{drop-set-lt}
use Rattle.std.proofs.lemmas.Grind.{drop_more_same}
use Rattle.following.proofs.Turns.{counted, at_most_one, turn_more, all_led}
use Rattle.following.proofs.follow.lead.Goals as goal

pub loop-turn-preserved : goal.loop-turn-preserved
loop-turn-preserved g c =
    let z = c.reply-reply.result.0 in
    let us = c.loop-turn.turn-items in
    let i = c.loop-turn.turn-index in
    let within : i < length us = omega arith in
    let counts = counted z c.is_some.result c.from-made.result c.is_some.ensures c.from-made.ensures in
    record {
      few = omega (arith, at_most_one z);
      rest = drop-set-lt _ us i _ (omega arith) ∙ drop_more_same us c.args.turns.now i c.loop-turn.invariant.rest;
      on = turn_more (g.B.Book.model c.args.book.now) c.args.remedies.now c.args.lock c.loop-turn.lock c.reply-reply.result.1 c.args.turns.now us i c.loop-turn.made c.from-made.result z _ within c.loop-turn.invariant.rest c.reply-reply.ensures counts c.loop-turn.invariant.on;
    }

pub returns : goal.returns
returns g c = all_led (g.B.Book.model c.args.book.now) c.args.remedies.now c.args.lock c.loop-turn.lock c.args.turns.now c.loop-turn.turn-items c.loop-turn.turn-index c.loop-turn.made (omega arith) (omega arith) c.loop-turn.invariant.on
