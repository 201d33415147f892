-- The number and the places of a refusal, whichever layer declines: those that its layer gave it.
use Rattle.std.specs.Prelude.{ℕ}
use Rattle.sheets.specs.Refusals.{number_of, places_of}
use Rattle.checks.specs.Refusals.{refusal_number, refusal_places}
use Rattle.following.specs.Refusals.{unfollowed_number, unfollowed_places}
use Rattle.service.specs.declared.call.CallRefusal.{CallRefusal}
use Rattle.service.specs.declared.call.CallRefusal.TheVariants.{Note, Plan, Round}

abbrev pub call_number : CallRefusal → ℕ
call_number (Note f) = number_of f
call_number (Plan f) = refusal_number f
call_number (Round f) = unfollowed_number f

abbrev pub call_places : CallRefusal → ℕ × ℕ × ℕ
call_places (Note f) = places_of f
call_places (Plan f) = refusal_places f
call_places (Round f) = unfollowed_places f
