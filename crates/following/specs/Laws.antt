-- What holds of every round, whatever calls are made.
use Rattle.std.specs.Prelude.{◌≡◌, ℕ, ◌*◌, ◌≤◌, List, [], length, ℤ, Ok, Result}
use Rattle.model.specs.Model.{Model, Lawful, offers}
use Rattle.criteria.specs.Policies.{Policy, tabled}
use Rattle.criteria.specs.Expected.{gain}
use Rattle.criteria.specs.Floor.{floor}
use Rattle.criteria.specs.Least.{Possible}
use Rattle.planning.specs.Plans.{PlanAnswers}
use Rattle.rounds.specs.States.{Arrival}
use Rattle.rounds.specs.Calls.{to_begin}
use Rattle.following.specs.declared.call.RoundCall.{RoundCall}
use Rattle.following.specs.declared.call.Reply.{Reply}
use Rattle.following.specs.declared.lock.Lock.{Lock}
use Rattle.following.specs.declared.lock.Lock.TheVariants.{Waiting}
use Rattle.following.specs.Runs.{Runs}
use Rattle.following.specs.Courses.{reported, IsSettled, AtLeast, Totals, calls_along}
use Rattle.following.specs.declared.call.Turn.{Turn}
use Rattle.following.specs.declared.follow.Unfollowed.{Unfollowed}
use Rattle.following.specs.Following.{planned_floor, RoundAnswers}

-- calls from any state have replies, and only one list of them
abbrev pub RunsAreDetermined : Type 0
RunsAreDetermined = (m : Model) (rs : List ℕ) (l : Lock) (ds : List RoundCall) → (zs : List Reply) × (Runs m rs l ds zs × ((ws : List Reply) → Runs m rs l ds ws → ws ≡ zs))

-- a round settles at the total of the course that was reported
abbrev pub SettlesTheCourse : Type 0
SettlesTheCourse = (m : Model) (rs : List ℕ) (H s : ℕ) (a : Arrival) → to_begin (offers m) H s ≡ Ok a → (ds : List RoundCall) (zs : List Reply) → Runs m rs (Waiting a) ds zs → Totals (gain m (tabled (offers m) rs) [] s (reported ds zs)) zs

-- that course is one that can come about, to the last visit
abbrev pub SettledCoursesArePossible : Type 0
SettledCoursesArePossible = (m : Model) (rs : List ℕ) (H s : ℕ) (a : Arrival) → to_begin (offers m) H s ≡ Ok a → (ds : List RoundCall) (zs : List Reply) → Runs m rs (Waiting a) ds zs → IsSettled zs → (length (reported ds zs) ≡ H) × Possible m (tabled (offers m) rs) [] s (reported ds zs)

-- by a table that is a policy, a round can be led along every course that can come about, and settled
abbrev pub CoursesCanBeLed : Type 0
CoursesCanBeLed = (m : Model) (rs : List ℕ) (H s : ℕ) (a : Arrival) → Lawful m → to_begin (offers m) H s ≡ Ok a → H * m.conditions ≤ length rs → Policy (offers m) H (tabled (offers m) rs) → (c : List ℕ) → length c ≡ H → Possible m (tabled (offers m) rs) [] s c → (zs : List Reply) × (Runs m rs (Waiting a) (calls_along c) zs × IsSettled zs × (reported (calls_along c) zs ≡ c))

-- no accepted settling of a round that follows an accepted plan by the floor answers less than the value planned where it began
abbrev pub RoundsAreCovered : Type 0
RoundsAreCovered = (m : Model) (H n : ℕ) (vs vs' : List ℤ) (rs rs' : List ℕ) → Lawful m → PlanAnswers floor m H (Ok n) vs vs' rs rs' → (s : ℕ) (a : Arrival) → to_begin (offers m) H s ≡ Ok a → (ds : List RoundCall) (zs : List Reply) → Runs m rs' (Waiting a) ds zs → AtLeast (planned_floor m vs' 1 s) zs

-- and some round that follows it settles at this very value
abbrev pub FloorsAreMet : Type 0
FloorsAreMet = (m : Model) (H n : ℕ) (vs vs' : List ℤ) (rs rs' : List ℕ) → Lawful m → PlanAnswers floor m H (Ok n) vs vs' rs rs' → (s : ℕ) (a : Arrival) → to_begin (offers m) H s ≡ Ok a → (c : List ℕ) × ((zs : List Reply) × (Runs m rs' (Waiting a) (calls_along c) zs × IsSettled zs × Totals (planned_floor m vs' 1 s) zs))

-- the answer of a round, both tables and the turns follow from what was brought
abbrev pub RoundsAreDetermined : Type 0
RoundsAreDetermined = (m : Model) (H s : ℕ) (vs vs' ws' : List ℤ) (rs rs' qs' : List ℕ) (ts ts' us' : List Turn) (x y : Result ℕ Unfollowed) → Lawful m → RoundAnswers m H s x vs vs' rs rs' ts ts' → RoundAnswers m H s y vs ws' rs qs' ts us' → (x ≡ y) × (vs' ≡ ws') × (rs' ≡ qs') × (ts' ≡ us')
