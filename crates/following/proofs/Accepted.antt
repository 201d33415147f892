-- What an accepted call of a round tells.
use Rattle.std.proofs.Common.{◌≡◌, ℕ, ◌*◌, ◌<◌, ◌≤◌, true, List, length, ℤ, Ok, Err, Result, refl, arith}
use Rattle.std.proofs.lemmas.Bool.Decides.{nat_tests}
use Rattle.model.specs.Model.{Model, Offers}
use Rattle.rounds.specs.States.{Arrival, Treatment}
use Rattle.rounds.specs.Calls.{first_arrival, to_begin, named_remedy, to_name, treated_by, treated_as_named, to_treat, next_arrival, to_report, final_total, to_settle}
use Rattle.rounds.specs.declared.refusal.RoundRefusal.{RoundRefusal}

pub begin_is : (o : Offers) (H s : ℕ) (a : Arrival) → to_begin o H s ≡ Ok a → (first_arrival H s ≡ a) × (s < o.conditions)
begin_is o H s a e = grind (arith, nat_tests)

pub settle_is : (m : Model) (a : Arrival) (z : ℤ) → to_settle m a ≡ Ok z → (a.visits < a.visit) × (final_total m a ≡ z)
settle_is m a z e = grind (arith, nat_tests)

pub report_is : (m : Model) (b : Treatment) (j : ℕ) (a : Arrival) → to_report m b j ≡ Ok a → (j < m.conditions) × (0 < m.share b.visit b.condition b.remedy j) × (next_arrival m b j ≡ a)
report_is m b j a e = grind (arith, nat_tests)

named_is : (a : Arrival) (x : Result ℕ RoundRefusal) (b : Treatment) → treated_as_named a x ≡ Ok b → (r : ℕ) × (x ≡ Ok r) × (treated_by a r ≡ b)
named_is a (Ok r) b e = (r, refl, cc)
named_is a (Err f) b e = cc

name_is : (o : Offers) (rs : List ℕ) (a : Arrival) (r : ℕ) → to_name o rs a ≡ Ok r → (a.visit ≤ a.visits) × (named_remedy o rs a ≡ r)
name_is o rs a r e = grind (arith, nat_tests)

pub treat_is : (o : Offers) (rs : List ℕ) (a : Arrival) (b : Treatment) → to_treat o rs a ≡ Ok b → (a.visit ≤ a.visits) × (treated_by a (named_remedy o rs a) ≡ b)
treat_is o rs a b e =
    let n = named_is a (to_name o rs a) b e in
    let k = name_is o rs a n.0 n.1 in
    (k.0, cc)

-- and what is accepted
pub treats_so : (o : Offers) (rs : List ℕ) (a : Arrival) → a.visit ≤ a.visits → a.condition < o.conditions → a.visits * o.conditions ≤ length rs → o.offered a.visit a.condition (named_remedy o rs a) ≡ true → to_treat o rs a ≡ Ok (treated_by a (named_remedy o rs a))
treats_so o rs a in_time i room here = grind (arith, nat_tests)

pub reports_so : (m : Model) (b : Treatment) (j : ℕ) → j < m.conditions → b.condition < m.conditions → b.remedy < m.remedies → 0 < m.share b.visit b.condition b.remedy j → to_report m b j ≡ Ok (next_arrival m b j)
reports_so m b j next own remedy some = grind (arith, nat_tests)

pub settles_so : (m : Model) (a : Arrival) → a.visits < a.visit → a.condition < m.conditions → to_settle m a ≡ Ok (final_total m a)
settles_so m a late own = grind (arith, nat_tests)

pub begins_so : (o : Offers) (H s : ℕ) → 1 ≤ H → H ≤ 48 → s < o.conditions → to_begin o H s ≡ Ok (first_arrival H s)
begins_so o H s some few own = grind (arith, nat_tests)
