-- What a line of a script says, and its form: what must follow each word.
use Rattle.std.specs.Prelude.{ℕ, ◌-◌, cond, List, [], ◌∷◌, map, replicate, drop, ℤ, pos, ◌==◌, slice_index_or, unsigned_abs}
use Rattle.fields.specs.Kinds.{Kind}
use Rattle.fields.specs.Kinds.Kind.{from_to, either_way}
use Rattle.fields.specs.Checking.{size_at}
use Rattle.quoting.specs.declared.question.By.{By}
use Rattle.quoting.specs.declared.question.By.TheVariants.{Mean, Floor}
use Rattle.quoting.specs.Asking.{criterion_letters}
use Rattle.following.specs.declared.call.RoundCall.{RoundCall}
use Rattle.following.specs.declared.call.RoundCall.TheVariants.{Treat as to_treat, Report as to_report, Settle as to_settle}
use Rattle.script.specs.declared.word.Word.{Word}
use Rattle.script.specs.declared.word.Word.TheVariants.{Bar, Surcharge, Prolong, Lift, Plan, Judge, Begin, Treat, Report, Settle}

-- a call on the sheet, or one of the round that was begun before
pub data Order : Type 0 where
  bars : (condition remedy first last : ℕ) → Order
  surcharges : (remedy : ℕ) → (amount : ℤ) → (first last : ℕ) → Order
  prolongs : (place last : ℕ) → Order
  lifts : (place : ℕ) → Order
  plans : By → (visits : ℕ) → Order
  judges : By → (visits : ℕ) → (remedies : List ℕ) → Order
  begins : (visits condition : ℕ) → Order
  turns : RoundCall → Order

-- what is written, besides the letter of a criterion: a number, an amount, a remedy of a table
abbrev pub number : Kind
number = from_to 0 4294967295

abbrev pub amount : Kind
amount = either_way 4294967295

abbrev pub remedy : Kind
remedy = from_to 0 255

-- what must follow a word that n fields follow: after `judge` there may be any number of remedies
abbrev pub form : Word → ℕ → List Kind
form Bar n = number ∷ number ∷ number ∷ number ∷ []
form Surcharge n = number ∷ amount ∷ number ∷ number ∷ []
form Prolong n = number ∷ number ∷ []
form Lift n = number ∷ []
form Plan n = criterion_letters ∷ number ∷ []
form Judge n = criterion_letters ∷ number ∷ replicate (n - 2) remedy
form Begin n = number ∷ number ∷ []
form Treat n = []
form Report n = number ∷ []
form Settle n = []

-- the criterion of a letter: M (77) or F (70)
abbrev pub by_letter : ℕ → By
by_letter l = cond (l == 77) Mean Floor

-- what the values after a word say
abbrev pub order_from : Word → List ℤ → Order
order_from Bar zs = bars (size_at zs 0) (size_at zs 1) (size_at zs 2) (size_at zs 3)
order_from Surcharge zs = surcharges (size_at zs 0) (slice_index_or zs 1 (pos 0)) (size_at zs 2) (size_at zs 3)
order_from Prolong zs = prolongs (size_at zs 0) (size_at zs 1)
order_from Lift zs = lifts (size_at zs 0)
order_from Plan zs = plans (by_letter (size_at zs 0)) (size_at zs 1)
order_from Judge zs = judges (by_letter (size_at zs 0)) (size_at zs 1) (map unsigned_abs (drop 2 zs))
order_from Begin zs = begins (size_at zs 0) (size_at zs 1)
order_from Treat zs = turns to_treat
order_from Report zs = turns (to_report (size_at zs 0))
order_from Settle zs = turns to_settle
