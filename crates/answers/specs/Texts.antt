-- What is printed of a script, when its requests are served.
use Rattle.std.specs.Prelude.{ℕ, Bool, true, false, cond, List, [], ◌∷◌, ◌++◌, ℤ, pos, Some, None, Option, Ok, Err, Result, slice_index_or}
use Rattle.fields.specs.Numerals.{Bytes}
use Rattle.fields.specs.Checking.{Reported, Checked}
use Rattle.fields.specs.Checking.Checked.{good, faulty}
use Rattle.rounds.specs.Refusals.{round_number, round_places}
use Rattle.following.specs.declared.call.RoundCall.{RoundCall}
use Rattle.following.specs.declared.call.RoundCall.TheVariants.{Treat, Report, Settle}
use Rattle.following.specs.declared.call.Reply.{Reply}
use Rattle.following.specs.declared.call.Reply.TheVariants.{Treated, Reported as Moved, Settled, Declined}
use Rattle.following.specs.declared.call.Turn.{Turn}
use Rattle.service.specs.declared.call.CallRefusal.{CallRefusal}
use Rattle.service.specs.Refusals.{call_number, call_places}
use Rattle.script.specs.Orders.{Order}
use Rattle.script.specs.Orders.Order.{bars, surcharges, prolongs, lifts, plans, judges, begins, turns}
use Rattle.script.specs.Parts.{Said}
use Rattle.answers.specs.Requests.{Brought}
use Rattle.answers.specs.Printing.{refusal_line, answer_line, silent_line, table_lines}

-- of line k, in which this fault is found
abbrev pub fault_line : (k : ℕ) → Reported → Bytes
fault_line k e = refusal_line k e.number (e.line_number, e.field, 0)

-- of a turn: its remedy, the condition that is reported, or the total; nothing is answered that is not a reply to its call
abbrev pub turn_line : (k : ℕ) → RoundCall → Option Reply → Bytes
turn_line k d None = silent_line k
turn_line k d (Some (Treated r)) = answer_line k (pos r)
turn_line k Treat (Some Moved) = silent_line k
turn_line k (Report j) (Some Moved) = answer_line k (pos j)
turn_line k Settle (Some Moved) = silent_line k
turn_line k d (Some (Settled z)) = answer_line k z
turn_line k d (Some (Declined f)) = refusal_line k (round_number f) (round_places f)

module _ (conditions : ℕ) where
  -- of a request that is accepted with the answer n: a plan or a judgement shows its entries first, and a round the value that
  -- is planned where it begins
  abbrev pub accepted : (k n : ℕ) → Order → List ℤ → List ℕ → Bytes
  accepted k n (bars s r f l) vs rs = answer_line k (pos n)
  accepted k n (surcharges r x f l) vs rs = answer_line k (pos n)
  accepted k n (prolongs p l) vs rs = answer_line k (pos n)
  accepted k n (lifts p) vs rs = answer_line k (pos n)
  accepted k n (plans c h) vs rs = table_lines conditions vs rs n ++ answer_line k (pos n)
  accepted k n (judges c h ws) vs rs = table_lines conditions vs rs n ++ answer_line k (pos n)
  accepted k n (begins h s) vs rs = answer_line k (slice_index_or vs s (pos 0))
  accepted k n (turns d) vs rs = answer_line k (pos n)

  abbrev pub answered : (k : ℕ) → Option (Result ℕ CallRefusal) → Brought → Bytes
  answered k None b = silent_line k
  answered k (Some (Err f)) b = refusal_line k (call_number f) (call_places f)
  answered k (Some (Ok n)) b = accepted k n b.order b.values b.remedies

  abbrev pub request_text : (k : ℕ) → Brought → Bytes
  request_text k b = answered k b.answer b

-- what is left to print: the turns of the round that stands open, and the requests
pub record Remaining : Type 0 where
  pub round : List Turn
  pub requests : List Brought

abbrev pub remaining : List Turn → List Brought → Remaining
remaining ts qs = record { round = ts; requests = qs }

-- a line with a turn takes the next of the round that stands open; outside any it is not answered
abbrev pub of_turns : (k : ℕ) → List Turn → Bytes
of_turns k [] = silent_line k
of_turns k (t ∷ ts) = turn_line k t.call t.reply

abbrev pub after_turn : List Turn → List Turn
after_turn [] = []
after_turn (t ∷ ts) = ts

-- a line with another order takes the next request
abbrev pub of_requests : (conditions k : ℕ) → List Brought → Bytes
of_requests n k [] = []
of_requests n k (b ∷ bs) = request_text n k b

abbrev pub after_request : Remaining → Remaining
after_request l = next l.requests l
  where
    next : List Brought → Remaining → Remaining
    next [] l = l
    next (b ∷ bs) l = remaining b.round bs

-- whether an order is a turn
abbrev pub is_turn : Order → Bool
is_turn (turns d) = true
is_turn _ = false

abbrev pub line_text : (conditions k : ℕ) → Checked Order → Remaining → Bytes
line_text n k (faulty e) l = fault_line k e
line_text n k (good o) l = cond (is_turn o) (of_turns k l.round) (of_requests n k l.requests)

abbrev pub after_line : Checked Order → Remaining → Remaining
after_line (faulty e) l = l
after_line (good o) l = cond (is_turn o) (remaining (after_turn l.round) l.requests) (after_request l)

-- all lines, in order
abbrev pub printed : (conditions : ℕ) → Remaining → List Said → Bytes
printed n l [] = []
printed n l (x ∷ xs) = line_text n x.number x.order l ++ printed n (after_line x.order l) xs
