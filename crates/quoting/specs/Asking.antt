-- The line that asks, and what it says.
use Rattle.std.specs.Prelude.{◌≡◌, ℕ, List, [], ◌∷◌, ℤ, pos, Ok, Err, Result}
use Rattle.criteria.specs.Criteria.{Ops}
use Rattle.criteria.specs.Mean.{mean}
use Rattle.criteria.specs.Floor.{floor}
use Rattle.fields.specs.declared.faults.FieldFault.{FieldFault}
use Rattle.fields.specs.declared.faults.LineFault.{LineFault}
use Rattle.fields.specs.Numerals.{Bytes}
use Rattle.fields.specs.Kinds.{Kind}
use Rattle.fields.specs.Kinds.Kind.{one_of, from_to}
use Rattle.fields.specs.Checking.{check_field, check_line}
use Rattle.fields.specs.Checking.Checked.{good, faulty}
use Rattle.fields.specs.Views.{reported_field, reported_line}
use Rattle.quoting.specs.declared.question.Asked.{Asked}
use Rattle.quoting.specs.declared.question.By.{By}
use Rattle.quoting.specs.declared.question.By.TheVariants.{Mean, Floor}

-- the criterion that is asked for, and its letter: M (77) or F (70)
abbrev pub criterion : By → Ops ℤ ℤ
criterion Mean = mean
criterion Floor = floor

abbrev pub letter_of : By → ℕ
letter_of Mean = 77
letter_of Floor = 70

-- the line that asks: Q (81), and what must follow it: the visits and the letter of a criterion
abbrev pub question_letters : Bytes
question_letters = 81 ∷ []

abbrev pub criterion_letters : Kind
criterion_letters = one_of (77 ∷ 70 ∷ [])

abbrev pub question_form : List Kind
question_form = from_to 1 48 ∷ criterion_letters ∷ []

-- whatever letter it begins with
abbrev pub after_letter : ℕ → List Kind
after_letter l = question_form

-- the values after Q
abbrev pub asked_values : Asked → List ℤ
asked_values q = pos q.visits ∷ pos (letter_of q.by) ∷ []

-- what is answered of the bytes of the criterion's field, at place i of line k
abbrev pub CriterionRead : (k i : ℕ) → Bytes → Result By FieldFault → Type 0
CriterionRead k i f (Ok by_letter) = check_field k i criterion_letters f ≡ good (pos (letter_of by_letter))
CriterionRead k i f (Err e) = check_field k i criterion_letters f ≡ faulty (reported_field e)

-- what is answered of line k, if it is to be the line that asks
abbrev pub QuestionRead : (k : ℕ) → Bytes → Result Asked LineFault → Type 0
QuestionRead k t (Ok q) = check_line k question_letters after_letter t ≡ good (81, asked_values q)
QuestionRead k t (Err e) = check_line k question_letters after_letter t ≡ faulty (reported_line e)
