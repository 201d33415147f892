-- What holds of every script: of its requests, of what is printed of it, and of what the desk answers.
use Rattle.std.specs.Prelude.{◌≡◌, ◌≢◌, ℕ, ◌+◌, ◌*◌, ◌<◌, ◌≤◌, Bool, false, not, List, [], ◌∷◌, ◌++◌, map, filter, filter_map, length, slice_get, zip, All, ℤ, pos, Some, None, Option}
use Rattle.std.specs.List.{AllZip, concat}
use Rattle.model.specs.Model.{Model}
use Rattle.fields.specs.Numerals.{Bytes}
use Rattle.fields.specs.Checking.{Reported, Checked}
use Rattle.fields.specs.Checking.Checked.{good, faulty}
use Rattle.quoting.specs.declared.question.By.{By}
use Rattle.following.specs.declared.call.RoundCall.{RoundCall}
use Rattle.following.specs.declared.call.Turn.{Turn}
use Rattle.script.specs.Orders.{Order}
use Rattle.script.specs.Orders.Order.{plans, judges, begins, turns}
use Rattle.script.specs.Parts.{Said, said}
use Rattle.answers.specs.Requests.{Brought, requests_of, brought_of}
use Rattle.answers.specs.Printing.{refusal_line, answer_line, silent_line, table_lines}
use Rattle.answers.specs.Texts.{fault_line, is_turn, request_text}
use Rattle.answers.specs.Desk.{Serves, DeskAnswers}

-- the order of a line, where it has no fault, and the call of a turn
abbrev pub readable : Said → Option Order
readable x = said_by x.order
  where
    said_by : Checked Order → Option Order
    said_by (good o) = Some o
    said_by (faulty e) = None

abbrev pub call_of_turn : Order → Option RoundCall
call_of_turn (turns d) = Some d
call_of_turn _ = None

-- the orders of some lines that are not turns, and the calls of those that are
abbrev pub asks_in : List Said → List Order
asks_in xs = filter (λ o. not (is_turn o)) (filter_map readable xs)

abbrev pub turn_calls_in : List Said → List RoundCall
turn_calls_in xs = filter_map call_of_turn (filter_map readable xs)

-- a table before it is served: so many entries where there is a plan of so many visits, none elsewhere, and all the same
pub record IsBlank {X : Type 0} (entry : X) (visits entries : ℕ) (xs : List X) : Type 0 where
  pub room : 1 ≤ visits → visits ≤ 48 → length xs ≡ entries
  pub no_visit : visits < 1 → length xs ≡ 0
  pub many_visits : 48 < visits → length xs ≡ 0
  pub each : All (λ x. x ≡ entry) xs

module _ (conditions : ℕ) where
  -- the tables and the turns that an order is brought with
  abbrev pub BroughtWith : Order → List ℤ → List ℕ → List Turn → Type 0
  BroughtWith (plans c h) vs rs ts = IsBlank (pos 0) h ((h + 1) * conditions) vs × IsBlank 0 h (h * conditions) rs × (ts ≡ [])
  BroughtWith (judges c h ws) vs rs ts = IsBlank (pos 0) h ((h + 1) * conditions) vs × (rs ≡ ws) × (ts ≡ [])
  BroughtWith (begins h s) vs rs ts = IsBlank (pos 0) h ((h + 1) * conditions) vs × IsBlank 0 h (h * conditions) rs
  BroughtWith _ vs rs ts = (vs ≡ []) × (rs ≡ []) × (ts ≡ [])

  pub record IsUnserved (b : Brought) : Type 0 where
    pub unanswered : b.answer ≡ None
    pub tables : BroughtWith b.order b.values b.remedies b.round

-- there is one request, not yet served, for each line that says an order which is not a turn, in order
abbrev pub EachOrderIsARequest : Type 0
EachOrderIsARequest = (n : ℕ) (script : List Said) → (map (λ b. b.order) (requests_of n script) ≡ asks_in script) × All (IsUnserved n) (requests_of n script)

-- no line is left, or the next says an order which is not a turn
abbrev pub EndsARound : List Said → Type 0
EndsARound [] = Unit {0}
EndsARound (x ∷ xs) = (o : Order) × (x.order ≡ good o) × (is_turn o ≡ false)

-- a round takes the turns of the lines after it, up to the next order which is not one: none is lost, and none is another's
pub record TakesTurns (n : ℕ) (before lines after : List Said) (k h s : ℕ) : Type 0 where
  pub request : Brought
  pub found : slice_get (requests_of n (before ++ (said k (good (begins h s)) ∷ (lines ++ after)))) (length (asks_in before)) ≡ Some request
  pub order : request.order ≡ begins h s
  pub takes : request.round ≡ map (λ d. record { call = d; reply = None }) (turn_calls_in lines)

abbrev pub RoundsTakeTheirTurns : Type 0
RoundsTakeTheirTurns = (n : ℕ) (before lines after : List Said) (k h s : ℕ) → asks_in lines ≡ [] → EndsARound after → TakesTurns n before lines after k h s

-- the text of line k, which says this or has a fault: its last line bears its number, and only a plan or a judgement that is
-- accepted has lines before it
pub data TextOf (conditions k : ℕ) : Checked Order → Bytes → Type 0 where
  text_of_fault : (e : Reported) → TextOf conditions k (faulty e) (fault_line k e)
  text_of_silence : (d : RoundCall) → TextOf conditions k (good (turns d)) (silent_line k)
  text_of_refusal : (o : Order) (n : ℕ) (p : ℕ × ℕ × ℕ) → TextOf conditions k (good o) (refusal_line k n p)
  text_of_answer : (o : Order) (z : ℤ) → TextOf conditions k (good o) (answer_line k z)
  text_of_plan : (c : By) (h n : ℕ) (vs : List ℤ) (rs : List ℕ) → TextOf conditions k (good (plans c h)) (table_lines conditions vs rs n ++ answer_line k (pos n))
  text_of_judgement : (c : By) (h n : ℕ) (ws : List ℕ) (vs : List ℤ) (rs : List ℕ) → TextOf conditions k (good (judges c h ws)) (table_lines conditions vs rs n ++ answer_line k (pos n))

-- whether a line says an order which is not a turn
abbrev pub asks : Said → Bool
asks x = asks_by x.order
  where
    asks_by : Checked Order → Bool
    asks_by (good o) = not (is_turn o)
    asks_by (faulty e) = false

-- what is printed of a script is one text for each of its lines, in order, and none is empty; the lines with an order which is
-- not a turn have, in order, the texts of the requests as they were served, of each one
pub record LinesAnswered (conditions : ℕ) (script : List Said) (served : List Brought) (output : Bytes) : Type 0 where
  pub texts : List Bytes
  pub whole : output ≡ concat texts
  pub each : AllZip (λ (x : Said) t. TextOf conditions x.number x.order t × (t ≢ [])) script texts
  pub requests : AllZip (λ (p : Said × Bytes) q. p.1 ≡ request_text conditions p.0.number q) (filter (λ p. asks p.0) (zip script texts)) served

abbrev pub EachLineIsAnswered : Type 0
EachLineIsAnswered = (m : Model) (script : List Said) (output : Bytes) (s : Serves m script output) → LinesAnswered m.conditions script (map brought_of s.after) output

-- no input has two outputs
abbrev pub OneDesk : Type 0
OneDesk = (input output other : Bytes) → DeskAnswers input output → DeskAnswers input other → other ≡ output
