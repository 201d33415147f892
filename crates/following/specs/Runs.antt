-- A list of calls on a lock, as far as its states allow them, and what each answers.
use Rattle.std.specs.Prelude.{◌≡◌, ℕ, Bool, true, false, List, [], ◌∷◌, ℤ, Ok, Option, Some, None}
use Rattle.model.specs.Model.{Model, offers}
use Rattle.rounds.specs.States.{Arrival, Treatment}
use Rattle.rounds.specs.Calls.{given_back, to_treat, to_report, to_settle}
use Rattle.rounds.specs.declared.refusal.RoundRefusal.{RoundRefusal}
use Rattle.following.specs.declared.call.RoundCall.{RoundCall}
use Rattle.following.specs.declared.call.RoundCall.TheVariants.{Treat, Report, Settle}
use Rattle.following.specs.declared.call.Reply.{Reply}
use Rattle.following.specs.declared.call.Reply.TheVariants.{Treated, Reported, Settled, Declined}
use Rattle.following.specs.declared.lock.Lock.{Lock}
use Rattle.following.specs.declared.lock.Lock.TheVariants.{Waiting, InCare, Done}

-- which calls a state allows
abbrev pub allows : Lock → RoundCall → Bool
allows (Waiting a) Treat = true
allows (Waiting a) (Report j) = false
allows (Waiting a) Settle = true
allows (InCare b) Treat = false
allows (InCare b) (Report j) = true
allows (InCare b) Settle = false
allows Done Treat = false
allows Done (Report j) = false
allows Done Settle = false

-- an allowed call by a table of remedies: its reply, and the state after it. Declined, the state is as it was
pub data Does (m : Model) (rs : List ℕ) : Lock → RoundCall → Reply → Lock → Type 0 where
  treats : (a : Arrival) (b : Treatment) → to_treat (offers m) rs a ≡ Ok b → Does m rs (Waiting a) Treat (Treated b.remedy) (InCare b)
  treats_not : (a : Arrival) (f : RoundRefusal) → to_treat (offers m) rs a ≡ given_back a f → Does m rs (Waiting a) Treat (Declined f) (Waiting a)
  reports : (b : Treatment) (j : ℕ) (a : Arrival) → to_report m b j ≡ Ok a → Does m rs (InCare b) (Report j) Reported (Waiting a)
  reports_not : (b : Treatment) (j : ℕ) (f : RoundRefusal) → to_report m b j ≡ given_back b f → Does m rs (InCare b) (Report j) (Declined f) (InCare b)
  settles : (a : Arrival) (z : ℤ) → to_settle m a ≡ Ok z → Does m rs (Waiting a) Settle (Settled z) Done
  settles_not : (a : Arrival) (f : RoundRefusal) → to_settle m a ≡ given_back a f → Does m rs (Waiting a) Settle (Declined f) (Waiting a)

-- one after another, until the state does not allow the next; these are the replies of those that were made
pub data Runs (m : Model) (rs : List ℕ) : Lock → List RoundCall → List Reply → Type 0 where
  ends : (l : Lock) → Runs m rs l [] []
  goes : {l l' : Lock} {d : RoundCall} {z : Reply} {ds : List RoundCall} {zs : List Reply} → Does m rs l d z l' → Runs m rs l' ds zs → Runs m rs l (d ∷ ds) (z ∷ zs)
  stops : {l : Lock} {d : RoundCall} (ds : List RoundCall) → allows l d ≡ false → Runs m rs l (d ∷ ds) []

-- what is told of any one call: a reply, if it was allowed; otherwise none, and the round is over
abbrev pub Replied : Model → List ℕ → Lock → RoundCall → Option Reply → Lock → Type 0
Replied m rs l d (Some z) l' = Does m rs l d z l'
Replied m rs l d None l' = (allows l d ≡ false) × (l' ≡ Done)
