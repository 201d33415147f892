use Rattle.answers.proofs.Asked.{each_order_is_a_request, rounds_take_their_turns}
use Rattle.answers.proofs.laws.each_order_is_a_request.Goals as goal

pub returns : goal.returns
returns c = record { requests = each_order_is_a_request; turns = rounds_take_their_turns }
