-- The four calls of a round: what each answers. A declined call gives the lock's state back as it was.
use Rattle.std.specs.Prelude.{ℕ, suc, ◌*◌, Bool, cond, not, ◌||◌, List, length, ℤ, pos, ◌+ℤ◌, Ok, Err, Result, ◌==◌, nat_le, nat_lt}
use Rattle.model.specs.Model.{Model, Offers}
use Rattle.checks.specs.Places.{named}
use Rattle.rounds.specs.States.{Arrival, Treatment}
use Rattle.rounds.specs.declared.state.Declined.{Declined}
use Rattle.rounds.specs.declared.refusal.RoundRefusal.{RoundRefusal}
use Rattle.rounds.specs.declared.refusal.RoundRefusal.TheVariants.{Visits, Short, Unknown, Rule, Over, Impossible, Early}

-- declined, with the state that the call was made on
abbrev pub given_back : {A S : Type 0} → S → RoundRefusal → Result A (Declined S)
given_back s f = Err (record { state = s; refusal = f })

-- the lock has arrived at visit 1, with nothing collected
abbrev pub first_arrival : (H s : ℕ) → Arrival
first_arrival H s = record { visits = H; visit = 1; condition = s; collected = pos 0 }

abbrev pub to_begin : Offers → (H s : ℕ) → Result Arrival RoundRefusal
to_begin o H s =
    cond (H == 0 || nat_lt 48 H) (Err Visits)
    (cond (nat_le o.conditions s) (Err Unknown)
    (Ok (first_arrival H s)))

-- the remedy that a table names for the lock; the table is read by the conditions of the book
abbrev pub named_remedy : Offers → List ℕ → Arrival → ℕ
named_remedy o rs a = named o rs a.visit a.condition

-- that remedy, or why it cannot be given
abbrev pub to_name : Offers → List ℕ → Arrival → Result ℕ RoundRefusal
to_name o rs a =
    let r = named_remedy o rs a in
    cond (nat_lt a.visits a.visit) (Err Over)
    (cond (nat_le o.conditions a.condition) (Err Unknown)
    (cond (nat_lt (length rs) (a.visits * o.conditions)) (Err Short)
    (cond (not (o.offered a.visit a.condition r)) (Err (Rule a.visit a.condition r))
    (Ok r))))

-- the lock has been given a remedy
abbrev pub treated_by : Arrival → (r : ℕ) → Treatment
treated_by a r = record { visits = a.visits; visit = a.visit; condition = a.condition; remedy = r; collected = a.collected }

abbrev pub treated_as_named : Arrival → Result ℕ RoundRefusal → Result Treatment (Declined Arrival)
treated_as_named a (Ok r) = Ok (treated_by a r)
treated_as_named a (Err f) = given_back a f

abbrev pub to_treat : Offers → List ℕ → Arrival → Result Treatment (Declined Arrival)
to_treat o rs a = treated_as_named a (to_name o rs a)

-- a next condition, or the lock's own condition or remedy, is beyond the book's sizes
abbrev pub is_unknown : Model → Treatment → (j : ℕ) → Bool
is_unknown m b j = nat_le m.conditions j || nat_le m.conditions b.condition || nat_le m.remedies b.remedy

-- the lock has arrived at the next visit, in a condition, with the amount of that outcome
abbrev pub next_arrival : Model → Treatment → (j : ℕ) → Arrival
next_arrival m b j = record { visits = b.visits; visit = suc b.visit; condition = j; collected = b.collected +ℤ m.amount b.visit b.condition b.remedy j }

abbrev pub to_report : Model → Treatment → (j : ℕ) → Result Arrival (Declined Treatment)
to_report m b j =
    cond (is_unknown m b j) (given_back b Unknown)
    (cond (m.share b.visit b.condition b.remedy j == 0) (given_back b Impossible)
    (Ok (next_arrival m b j)))

-- what was collected, and the worth of the condition in the end
abbrev pub final_total : Model → Arrival → ℤ
final_total m a = a.collected +ℤ m.worth a.condition

abbrev pub to_settle : Model → Arrival → Result ℤ (Declined Arrival)
to_settle m a =
    cond (nat_le a.visit a.visits) (given_back a Early)
    (cond (nat_le m.conditions a.condition) (given_back a Unknown)
    (Ok (final_total m a)))
