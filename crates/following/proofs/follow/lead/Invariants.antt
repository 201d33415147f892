use Rattle.std.proofs.Common.{◌≡◌, ℕ, ◌+◌, ◌≤◌, List, ◌++◌, take, drop}
use Rattle.following.specs.declared.call.Turn.{Turn}
use Rattle.following.specs.Following.{LeadsOn}
use Rattle.following.proofs.follow.lead.Given as goal

-- what is still to come was not touched, and what it comes to, put after the turns so far, is what all turns come to
abbrev pub invariant-loop-turn : goal.invariant-loop-turn
invariant-loop-turn g l = record {
  few : l.made ≤ l.turn-index;
  rest : drop l.turn-index l.turn-items ≡ drop l.turn-index l.initial.turn-items;
  on : (ws : List Turn) (n : ℕ) → LeadsOn (g.B.Book.model l.book) l.remedies l.lock n (drop l.turn-index l.initial.turn-items) ws → LeadsOn (g.B.Book.model l.book) l.remedies l.initial.lock (l.made + n) l.initial.turn-items (take l.turn-index l.turn-items ++ ws);
}
