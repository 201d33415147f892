-- When a plan or a judgement is accepted, and when it is declined, and as what.
use Rattle.std.specs.Prelude.{◌≡◌, ℕ, ◌+◌, ◌*◌, ◌<◌, ◌≤◌, ◌⊎◌, List, [], ◌∷◌, length, Ok, Err, Result}
use Rattle.model.specs.Model.{Model, Offers, offers}
use Rattle.model.specs.Visits.{Open, Even, Fits}
use Rattle.checks.specs.Refusals.{refusal_number, OneOf}
use Rattle.checks.specs.Places.{FirstStuck, FirstUneven, FirstMisnamed, WellNamed}
use Rattle.checks.specs.declared.refusal.PlanRefusal.{PlanRefusal}
use Rattle.checks.specs.declared.refusal.PlanRefusal.TheVariants.{Visits, Short, Stuck, Uneven, Fine, Rule}

-- the visits are 1 to 48, and tables of these lengths have room for them
pub record InOrder (o : Offers) (H values remedies : ℕ) : Type 0 where
  pub some : 1 ≤ H
  pub few : H ≤ 48
  pub values_room : (H + 1) * o.conditions ≤ values
  pub remedies_room : H * o.conditions ≤ remedies

-- the visits are 1 to 48, and a table of values or one of remedies is too short
pub record TooShort (o : Offers) (H values remedies : ℕ) : Type 0 where
  pub some : 1 ≤ H
  pub few : H ≤ 48
  pub which : (values < (H + 1) * o.conditions) ⊎ (remedies < H * o.conditions)

-- declined for the visits or the lengths of the tables alone
abbrev pub RoomDeclined : Offers → (H values remedies : ℕ) → PlanRefusal → Type 0
RoomDeclined o H v w Visits = (H < 1) ⊎ (48 < H)
RoomDeclined o H v w Short = TooShort o H v w
RoomDeclined o H v w (Stuck n s) = ⊥
RoomDeclined o H v w (Uneven n s r) = ⊥
RoomDeclined o H v w Fine = ⊥
RoomDeclined o H v w (Rule n s r) = ⊥

-- what the check of visits and tables answers: the entries of remedies that are filled, or why not
abbrev pub RoomChecked : Offers → (H values remedies : ℕ) → Result ℕ PlanRefusal → Type 0
RoomChecked o H v w (Ok n) = (n ≡ H * o.conditions) × InOrder o H v w
RoomChecked o H v w (Err e) = RoomDeclined o H v w e

-- declined for the numbers alone: uneven shares, or the number limit passed
abbrev pub NumbersDeclined : Model → ℕ → PlanRefusal → Type 0
NumbersDeclined m H Visits = ⊥
NumbersDeclined m H Short = ⊥
NumbersDeclined m H (Stuck n s) = ⊥
NumbersDeclined m H (Uneven n s r) = FirstUneven m H n s r
NumbersDeclined m H Fine = Even m H × (Fits m H → ⊥)
NumbersDeclined m H (Rule n s r) = ⊥

-- what the check of shares and the number limit answers
abbrev pub NumbersChecked : Model → ℕ → Result (Unit {0}) PlanRefusal → Type 0
NumbersChecked m H (Ok x) = Even m H × Fits m H
NumbersChecked m H (Err e) = NumbersDeclined m H e

-- a plan is declined, with tables of these lengths
abbrev pub PlanDeclined : Model → (H values remedies : ℕ) → PlanRefusal → Type 0
PlanDeclined m H v w Visits = (H < 1) ⊎ (48 < H)
PlanDeclined m H v w Short = TooShort (offers m) H v w
PlanDeclined m H v w (Stuck n s) = InOrder (offers m) H v w × FirstStuck (offers m) H n s
PlanDeclined m H v w (Uneven n s r) = InOrder (offers m) H v w × Open (offers m) H × FirstUneven m H n s r
PlanDeclined m H v w Fine = InOrder (offers m) H v w × Open (offers m) H × Even m H × (Fits m H → ⊥)
PlanDeclined m H v w (Rule n s r) = ⊥

-- a plan is accepted: no refusal applies
pub record PlanAccepted (m : Model) (H values remedies : ℕ) : Type 0 where
  pub in_order : InOrder (offers m) H values remedies
  pub openly : Open (offers m) H
  pub evenly : Even m H
  pub fitting : Fits m H

-- what the check before a plan answers
abbrev pub PlanChecked : Model → (H values remedies : ℕ) → Result ℕ PlanRefusal → Type 0
PlanChecked m H v w (Ok n) = (n ≡ H * m.conditions) × PlanAccepted m H v w
PlanChecked m H v w (Err e) = OneOf (1 ∷ 2 ∷ 7 ∷ 8 ∷ 9 ∷ []) (refusal_number e) × PlanDeclined m H v w e

-- a table of remedies is declined, with a table of values of this length
abbrev pub JudgeDeclined : Model → (H values : ℕ) → List ℕ → PlanRefusal → Type 0
JudgeDeclined m H v rs Visits = (H < 1) ⊎ (48 < H)
JudgeDeclined m H v rs Short = TooShort (offers m) H v (length rs)
JudgeDeclined m H v rs (Stuck n s) = ⊥
JudgeDeclined m H v rs (Uneven n s r) = InOrder (offers m) H v (length rs) × WellNamed (offers m) rs H × FirstUneven m H n s r
JudgeDeclined m H v rs Fine = InOrder (offers m) H v (length rs) × WellNamed (offers m) rs H × Even m H × (Fits m H → ⊥)
JudgeDeclined m H v rs (Rule n s r) = InOrder (offers m) H v (length rs) × FirstMisnamed (offers m) rs H n s r

-- it is accepted: no refusal applies
pub record JudgeAccepted (m : Model) (H values : ℕ) (rs : List ℕ) : Type 0 where
  pub in_order : InOrder (offers m) H values (length rs)
  pub well_named : WellNamed (offers m) rs H
  pub evenly : Even m H
  pub fitting : Fits m H

-- what the check before a judgement answers
abbrev pub JudgeChecked : Model → (H values : ℕ) → List ℕ → Result ℕ PlanRefusal → Type 0
JudgeChecked m H v rs (Ok n) = (n ≡ H * m.conditions) × JudgeAccepted m H v rs
JudgeChecked m H v rs (Err e) = OneOf (1 ∷ 2 ∷ 10 ∷ 8 ∷ 9 ∷ []) (refusal_number e) × JudgeDeclined m H v rs e
