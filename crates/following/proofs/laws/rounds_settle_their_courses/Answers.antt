use Rattle.following.proofs.Totals.{settles_the_course}
use Rattle.following.proofs.Led.{settled_courses_are_possible, courses_can_be_led}
use Rattle.following.proofs.Determined.{runs_are_determined}
use Rattle.following.proofs.laws.rounds_settle_their_courses.Goals as goal

pub returns : goal.returns
returns c = record { determined = runs_are_determined; totals = settles_the_course; possible = settled_courses_are_possible; each = courses_can_be_led }
