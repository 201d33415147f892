use Rattle.criteria.proofs.laws.policies_exist_where_offered.Goals as goal
use Rattle.criteria.proofs.Histories.{books_offer_their_own}
use Rattle.criteria.proofs.Offered.{policy_iff_offered, offered_has_one, stuck_has_none, offered_or_stuck}

pub returns : goal.returns
returns c = record { exactly = policy_iff_offered; one = offered_has_one; none = stuck_has_none; either = offered_or_stuck; books = books_offer_their_own }
