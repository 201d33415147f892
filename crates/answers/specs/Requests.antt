-- The requests that a script makes.
use Rattle.std.specs.Prelude.{ℕ, ◌+◌, ◌*◌, cond, ◌&&◌, List, [], ◌∷◌, replicate, ℤ, pos, Some, None, Option, Result, nat_le}
use Rattle.std.specs.List.{cons_option}
use Rattle.criteria.specs.declared.by.By.{By}
use Rattle.criteria.specs.declared.by.By.TheVariants.{Mean, Floor}
use Rattle.quoting.specs.declared.question.By.{By as Letter}
use Rattle.quoting.specs.declared.question.By.TheVariants.{Mean as mean_letter, Floor as floor_letter}
use Rattle.fields.specs.Checking.{Checked}
use Rattle.fields.specs.Checking.Checked.{good, faulty}
use Rattle.following.specs.declared.call.Turn.{Turn}
use Rattle.service.specs.declared.call.Call.{Call}
use Rattle.service.specs.declared.call.Call.TheVariants.{Bar, Surcharge, Prolong, Lift, Judge, Plan, Round}
use Rattle.service.specs.declared.call.Request.{Request}
use Rattle.service.specs.declared.call.CallRefusal.{CallRefusal}
use Rattle.script.specs.Orders.{Order}
use Rattle.script.specs.Orders.Order.{bars, surcharges, prolongs, lifts, plans, judges, begins, turns}
use Rattle.script.specs.Parts.{Said}

-- a request as a script sees it: what is asked, the entries of its tables, the turns of its round, and its answer
pub record Brought : Type 0 where
  pub order : Order
  pub values : List ℤ
  pub remedies : List ℕ
  pub round : List Turn
  pub answer : Option (Result ℕ CallRefusal)

abbrev pub brought : Order → List ℤ → List ℕ → List Turn → Option (Result ℕ CallRefusal) → Brought
brought o vs rs ts a = record { order = o; values = vs; remedies = rs; round = ts; answer = a }

-- so many entries, as a plan of these visits has; none where there is no plan of so many
abbrev pub room : (visits entries : ℕ) → ℕ
room h n = cond (nat_le 1 h && nat_le h 48) n 0

module _ (conditions : ℕ) where
  abbrev pub blank_values : (visits : ℕ) → List ℤ
  blank_values h = replicate (room h ((h + 1) * conditions)) (pos 0)

  abbrev pub blank_remedies : (visits : ℕ) → List ℕ
  blank_remedies h = replicate (room h (h * conditions)) 0

  -- the request of an order that is one, before the turns of the lines that follow it
  abbrev pub request_for : Order → List Turn → Option Brought
  request_for (bars s r f l) ts = Some (brought (bars s r f l) [] [] [] None)
  request_for (surcharges r x f l) ts = Some (brought (surcharges r x f l) [] [] [] None)
  request_for (prolongs p l) ts = Some (brought (prolongs p l) [] [] [] None)
  request_for (lifts p) ts = Some (brought (lifts p) [] [] [] None)
  request_for (plans c h) ts = Some (brought (plans c h) (blank_values h) (blank_remedies h) [] None)
  request_for (judges c h rs) ts = Some (brought (judges c h rs) (blank_values h) rs [] None)
  request_for (begins h s) ts = Some (brought (begins h s) (blank_values h) (blank_remedies h) ts None)
  request_for (turns d) ts = None

-- a turn before some turns; any other order ends the round before it, and a line with a fault does not
abbrev pub turned : Checked Order → List Turn → List Turn
turned (faulty e) ts = ts
turned (good (bars s r f l)) ts = []
turned (good (surcharges r x f l)) ts = []
turned (good (prolongs p l)) ts = []
turned (good (lifts p)) ts = []
turned (good (plans c h)) ts = []
turned (good (judges c h rs)) ts = []
turned (good (begins h s)) ts = []
turned (good (turns d)) ts = record { call = d; reply = None } ∷ ts

-- the turns of a round that begins before these lines
abbrev pub turns_ahead : List Said → List Turn
turns_ahead [] = []
turns_ahead (x ∷ xs) = turned x.order (turns_ahead xs)

abbrev pub requested : (conditions : ℕ) → Checked Order → List Turn → Option Brought
requested n (faulty e) ts = None
requested n (good o) ts = request_for n o ts

-- the requests of a script, in order, where the book has so many conditions
abbrev pub requests_of : (conditions : ℕ) → List Said → List Brought
requests_of n [] = []
requests_of n (x ∷ xs) = cons_option (requested n x.order (turns_ahead xs)) (requests_of n xs)

-- the letter of a criterion
abbrev pub letter_for : By → Letter
letter_for (Mean x) = mean_letter
letter_for (Floor x) = floor_letter

-- a request as the code holds it
abbrev pub called : Call By ℤ → Option (Result ℕ CallRefusal) → Brought
called (Bar s r f l) a = brought (bars s r f l) [] [] [] a
called (Surcharge r x f l) a = brought (surcharges r x f l) [] [] [] a
called (Prolong p l) a = brought (prolongs p l) [] [] [] a
called (Lift p) a = brought (lifts p) [] [] [] a
called (Judge c h vs rs) a = brought (judges (letter_for c) h rs.items) vs.items rs.items [] a
called (Plan c h vs rs) a = brought (plans (letter_for c) h) vs.items rs.items [] a
called (Round h s vs rs ts) a = brought (begins h s) vs.items rs.items ts.items a

abbrev pub brought_of : Request By ℤ → Brought
brought_of q = called q.call q.answer
