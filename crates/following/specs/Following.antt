-- What a round that follows a plan by the floor answers, and what it leaves.
use Rattle.std.specs.Prelude.{◌≡◌, ℕ, ◌+◌, ◌-◌, ◌*◌, ◌<◌, List, [], ◌∷◌, length, map, ℤ, Ok, Err, Result, Some, None}
use Rattle.model.specs.Model.{Model, offers}
use Rattle.criteria.specs.Floor.{floor}
use Rattle.planning.specs.Tables.{at}
use Rattle.planning.specs.Plans.{PlanAnswers}
use Rattle.rounds.specs.Calls.{first_arrival, to_begin}
use Rattle.following.specs.declared.call.RoundCall.{RoundCall}
use Rattle.following.specs.declared.call.Reply.{Reply}
use Rattle.following.specs.declared.call.Turn.{Turn}
use Rattle.following.specs.declared.lock.Lock.{Lock}
use Rattle.following.specs.declared.lock.Lock.TheVariants.{Waiting}
use Rattle.following.specs.declared.follow.Unfollowed.{Unfollowed}
use Rattle.following.specs.declared.follow.Unfollowed.TheVariants.{Plan, Begin}
use Rattle.following.specs.Runs.{Runs}
use Rattle.following.specs.Courses.{AtLeast}

abbrev pub calls_of : List Turn → List RoundCall
calls_of ts = map (λ t. t.call) ts

-- the calls with their replies, in order; those past them have none
abbrev pub turns_of : List RoundCall → List Reply → List Turn
turns_of [] zs = []
turns_of (d ∷ ds) [] = record { call = d; reply = None } ∷ turns_of ds []
turns_of (d ∷ ds) (z ∷ zs) = record { call = d; reply = Some z } ∷ turns_of ds zs

-- from a state: n of the calls were made, as far as the states allow, and their replies stand with them
pub record LeadsOn (m : Model) (rs : List ℕ) (l : Lock) (n : ℕ) (ts ts' : List Turn) : Type 0 where
  pub replies : List Reply
  pub count : length replies ≡ n
  pub turns : ts' ≡ turns_of (calls_of ts) replies
  pub runs : Runs m rs l (calls_of ts) replies

-- the value that a plan by the floor has at a visit, in a condition
abbrev pub planned_floor : Model → List ℤ → (n s : ℕ) → ℤ
planned_floor m vs n s = at floor vs ((n - 1) * m.conditions + s)

-- a round from the condition s was led by the remedies rs, with the values vs: it settled no lower than planned
pub record Led (m : Model) (H s n : ℕ) (vs : List ℤ) (rs : List ℕ) (ts ts' : List Turn) : Type 0 where
  pub condition : s < m.conditions
  pub leads : LeadsOn m rs (Waiting (first_arrival H s)) n ts ts'
  pub covered : AtLeast (planned_floor m vs 1 s) leads.replies

-- the plan's answer and tables, then begin's answer, then the turns
abbrev pub RoundAnswers : Model → (H s : ℕ) → Result ℕ Unfollowed → (vs vs' : List ℤ) (rs rs' : List ℕ) (ts ts' : List Turn) → Type 0
RoundAnswers m H s (Ok n) vs vs' rs rs' ts ts' = PlanAnswers floor m H (Ok (H * m.conditions)) vs vs' rs rs' × Led m H s n vs' rs' ts ts'
RoundAnswers m H s (Err (Plan f)) vs vs' rs rs' ts ts' = PlanAnswers floor m H (Err f) vs vs' rs rs' × (ts' ≡ ts)
RoundAnswers m H s (Err (Begin f)) vs vs' rs rs' ts ts' = PlanAnswers floor m H (Ok (H * m.conditions)) vs vs' rs rs' × (to_begin (offers m) H s ≡ Err f) × (ts' ≡ ts)
