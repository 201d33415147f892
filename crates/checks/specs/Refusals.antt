-- Why planning or judging is declined, with the number and the three places that it is reported by.
use Rattle.std.specs.Prelude.{◌≡◌, ℕ, ◌⊎◌, List, [], ◌∷◌}
use Rattle.checks.specs.declared.refusal.PlanRefusal.{PlanRefusal}
use Rattle.checks.specs.declared.refusal.PlanRefusal.TheVariants.{Visits, Short, Stuck, Uneven, Fine, Rule}

abbrev pub refusal_number : PlanRefusal → ℕ
refusal_number Visits = 1
refusal_number Short = 2
refusal_number (Stuck n s) = 7
refusal_number (Uneven n s r) = 8
refusal_number Fine = 9
refusal_number (Rule n s r) = 10

-- visit, condition and remedy, 0 where there is none
abbrev pub refusal_places : PlanRefusal → ℕ × ℕ × ℕ
refusal_places Visits = (0, 0, 0)
refusal_places Short = (0, 0, 0)
refusal_places (Stuck n s) = (n, s, 0)
refusal_places (Uneven n s r) = (n, s, r)
refusal_places Fine = (0, 0, 0)
refusal_places (Rule n s r) = (n, s, r)

-- one of these numbers
abbrev pub OneOf : List ℕ → ℕ → Type 0
OneOf [] n = ⊥
OneOf (x ∷ xs) n = (n ≡ x) ⊎ OneOf xs n
