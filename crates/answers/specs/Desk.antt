-- What the desk answers to an input: a book file and then a script.
use Rattle.std.specs.Prelude.{◌≡◌, ℕ, ◌<◌, ◌≤◌, List, [], length, map, ℤ}
use Rattle.model.specs.Model.{Model}
use Rattle.criteria.specs.By.{chosen}
use Rattle.criteria.specs.declared.by.By.{By}
use Rattle.books.specs.Listed.{list_model}
use Rattle.fields.specs.Numerals.{Bytes}
use Rattle.fields.specs.Checking.{Checked}
use Rattle.fields.specs.Checking.Checked.{good, faulty}
use Rattle.bookfile.specs.File.{WrittenBook}
use Rattle.bookfile.specs.FileFaults.{Reads}
use Rattle.service.specs.declared.call.Request.{Request}
use Rattle.service.specs.Serving.{Served}
use Rattle.script.specs.Parts.{Said, book_part, script_of}
use Rattle.answers.specs.Printing.{refusal_line}
use Rattle.answers.specs.Requests.{requests_of, brought_of}
use Rattle.answers.specs.Texts.{fault_line, remaining, printed}

-- the requests of a script are served on a new sheet over a book of this model, and every line is answered
pub record Serves (m : Model) (script : List Said) (output : Bytes) : Type 0 where
  pub before : List (Request By ℤ)
  pub after : List (Request By ℤ)
  pub asked : map brought_of before ≡ requests_of m.conditions script
  pub served : Served chosen m [] before after
  pub prints : output ≡ printed m.conditions (remaining [] (map brought_of after)) script

abbrev pub model_of : WrittenBook → Model
model_of b = list_model b.conditions b.remedies b.parts b.records b.worths

-- where this is read of the book file; its first fault is printed alone, on the line where it is found
abbrev pub Tells : Checked WrittenBook → List Said → Bytes → Type 0
Tells (good b) script output = Serves (model_of b) script output
Tells (faulty e) script output = output ≡ fault_line e.line_number e

-- what is read of the book file, where m records and w worths have room, and what is printed then
abbrev pub Told : (m w : ℕ) (file : Bytes) (script : List Said) (output : Bytes) → Type 0
Told m w file script output = (book : Checked WrittenBook) × Reads m w file book × Tells book script output

-- the whole of the desk: 65,536 bytes, 2,048 records and 32 worths have room
pub record DeskAnswers (input output : Bytes) : Type 0 where
  pub too_long : 65536 < length input → output ≡ refusal_line 0 25 (0, 0, 0)
  pub told : length input ≤ 65536 → Told 2048 32 (book_part input) (script_of input) output
