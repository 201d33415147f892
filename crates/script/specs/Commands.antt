-- What a line of a script says, as the code holds it.
use Rattle.std.specs.Prelude.{◌≡◌, ℕ, ◌+◌, List, length, map, replicate, ℤ, pos, Ok, Err, Result, MatchResult, Vec}
use Rattle.std.specs.declared.alloc.Global.{Global}
use Rattle.fields.specs.Numerals.{Bytes}
use Rattle.fields.specs.Checking.{Checked, check_fields}
use Rattle.fields.specs.Checking.Checked.{good, faulty}
use Rattle.fields.specs.Views.{reported_field, reported_line}
use Rattle.fields.specs.declared.faults.FieldFault.{FieldFault}
use Rattle.bookfile.specs.Entered.{Left}
use Rattle.script.specs.declared.word.Word.{Word}
use Rattle.script.specs.declared.command.Command.{Command}
use Rattle.script.specs.declared.command.Command.TheVariants.{Note, Plan, Judge, Begin, Turn}
use Rattle.script.specs.declared.command.NoteCall.TheVariants.{Bar, Surcharge, Prolong, Lift}
use Rattle.script.specs.declared.word.Word.TheVariants.{Judge as judging}
use Rattle.script.specs.declared.command.Unread.{Unread}
use Rattle.script.specs.declared.command.Unread.TheVariants.{Faulty, NoMemory}
use Rattle.script.specs.Orders.{Order, form, remedy}
use Rattle.script.specs.Orders.Order.{bars, surcharges, prolongs, lifts, plans, judges, begins, turns}
use Rattle.script.specs.Forms.{check_rest}

abbrev pub order_of : Command → Order
order_of (Note (Bar s r f l)) = bars s r f l
order_of (Note (Surcharge r a f l)) = surcharges r a f l
order_of (Note (Prolong p l)) = prolongs p l
order_of (Note (Lift p)) = lifts p
order_of (Plan c h) = plans c h
order_of (Judge c h rs) = judges c h rs.items
order_of (Begin h s) = begins h s
order_of (Turn c) = turns c

-- what is answered of the fields of line k after a word, from place `at` on, where the second field comes next
abbrev pub RestRead : Word → (k at : ℕ) → Bytes → Result Command FieldFault → Type 0
RestRead w k at rest r = (fs : List Bytes) → Left rest fs → at ≡ 2 → length fs ≡ length (form w (length fs)) → MatchResult r (λ c. check_rest k w fs ≡ good (order_of c)) (λ e. check_rest k w fs ≡ faulty (reported_field e))

-- what is answered of a line, where this is computed of it; whether there is memory is open
abbrev pub CommandAnswers : Checked Order → Result Command Unread → Type 0
CommandAnswers x (Ok c) = x ≡ good (order_of c)
CommandAnswers x (Err (Faulty e)) = x ≡ faulty (reported_line e)
CommandAnswers x (Err (NoMemory e)) = Unit {0}

-- the same of the remedies of a table
abbrev pub TableAnswers : Checked (List ℤ) → Result (Vec ℕ Global) Unread → Type 0
TableAnswers x (Ok v) = x ≡ good (map pos v.items)
TableAnswers x (Err (Faulty e)) = x ≡ faulty (reported_line e)
TableAnswers x (Err (NoMemory e)) = Unit {0}

-- what is answered of the last `count` fields of line k, from place `at` on
abbrev pub TableRead : (count k at : ℕ) → Bytes → Result (Vec ℕ Global) Unread → Type 0
TableRead count k at rest r = (fs : List Bytes) → Left rest fs → length fs ≡ count → TableAnswers (check_fields k at (replicate count remedy) fs) r

-- and of all fields after `judge`, where `count` remedies follow letter and visits
abbrev pub JudgeRead : (count k at : ℕ) → Bytes → Result Command Unread → Type 0
JudgeRead count k at rest r = (fs : List Bytes) → Left rest fs → at ≡ 2 → length fs ≡ count + 2 → CommandAnswers (check_rest k judging fs) r
