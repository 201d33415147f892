-- Why no round was led, with the number and the three places that it is reported by.
use Rattle.std.specs.Prelude.{ℕ}
use Rattle.checks.specs.Refusals.{refusal_number, refusal_places}
use Rattle.rounds.specs.Refusals.{round_number, round_places}
use Rattle.following.specs.declared.follow.Unfollowed.{Unfollowed}
use Rattle.following.specs.declared.follow.Unfollowed.TheVariants.{Plan, Begin}

abbrev pub unfollowed_number : Unfollowed → ℕ
unfollowed_number (Plan f) = refusal_number f
unfollowed_number (Begin f) = round_number f

abbrev pub unfollowed_places : Unfollowed → ℕ × ℕ × ℕ
unfollowed_places (Plan f) = refusal_places f
unfollowed_places (Begin f) = round_places f
