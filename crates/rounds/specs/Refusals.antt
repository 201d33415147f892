-- Why a call of a round is declined, with the number and the three places that it is reported by.
use Rattle.std.specs.Prelude.{ℕ}
use Rattle.rounds.specs.declared.refusal.RoundRefusal.{RoundRefusal}
use Rattle.rounds.specs.declared.refusal.RoundRefusal.TheVariants.{Visits, Short, Unknown, Rule, Over, Impossible, Early}

abbrev pub round_number : RoundRefusal → ℕ
round_number Visits = 1
round_number Short = 2
round_number Unknown = 3
round_number (Rule n s r) = 10
round_number Over = 14
round_number Impossible = 15
round_number Early = 16

-- visit, condition and remedy, 0 where there is none
abbrev pub round_places : RoundRefusal → ℕ × ℕ × ℕ
round_places Visits = (0, 0, 0)
round_places Short = (0, 0, 0)
round_places Unknown = (0, 0, 0)
round_places (Rule n s r) = (n, s, r)
round_places Over = (0, 0, 0)
round_places Impossible = (0, 0, 0)
round_places Early = (0, 0, 0)
