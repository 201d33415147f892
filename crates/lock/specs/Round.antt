-- A round of the worked lock by its floor plan for two visits, from condition 0.
use Rattle.std.specs.Prelude.{List, [], ◌∷◌, negsuc, Some}
use Rattle.rounds.specs.declared.refusal.RoundRefusal.TheVariants.{Impossible}
use Rattle.following.specs.declared.call.RoundCall.{RoundCall}
use Rattle.following.specs.declared.call.RoundCall.TheVariants.{Treat, Report, Settle}
use Rattle.following.specs.declared.call.Reply.{Reply}
use Rattle.following.specs.declared.call.Reply.TheVariants.{Treated, Reported, Settled, Declined}
use Rattle.following.specs.declared.call.Turn.{Turn}

-- treated by overhaul; a report of condition 0 is declined, as it cannot have come about; condition 1 is reported;
-- then left, condition 3 reported, and settled at −5,000
abbrev pub round_calls : List RoundCall
round_calls = Treat ∷ Report 0 ∷ Report 1 ∷ Treat ∷ Report 3 ∷ Settle ∷ []

abbrev pub round_replies : List Reply
round_replies = Treated 1 ∷ Declined Impossible ∷ Reported ∷ Treated 0 ∷ Reported ∷ Settled (negsuc 4999) ∷ []

abbrev pub answered : RoundCall → Reply → Turn
answered d z = record { call = d; reply = Some z }

abbrev pub round_turns : List Turn
round_turns = answered Treat (Treated 1) ∷ answered (Report 0) (Declined Impossible) ∷ answered (Report 1) Reported ∷ answered Treat (Treated 0) ∷ answered (Report 3) Reported ∷ answered Settle (Settled (negsuc 4999)) ∷ []
