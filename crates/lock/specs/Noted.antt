-- Plans for one visit by the floor, with leaving dearer.
use Rattle.std.specs.Prelude.{◌≡◌, ℕ, List, [], ◌∷◌, length, ℤ, pos, negsuc, Ok, Result}
use Rattle.model.specs.Model.{Model}
use Rattle.criteria.specs.Mean.{mean}
use Rattle.checks.specs.declared.refusal.PlanRefusal.{PlanRefusal}
use Rattle.planning.specs.Plans.{PlanAnswers}
use Rattle.books.specs.declared.list.ListBook.{ListBook}
use Rattle.books.specs.Means.{list_means}
use Rattle.sheets.specs.declared.note.Note.{Note}
use Rattle.lock.specs.Lock.{worked_lock}
use Rattle.lock.specs.declared.notes.OneVisit.{OneVisit}

-- the book of a sheet means what the worked lock means, and no note stands
abbrev pub IsBlankLock : ListBook → List Note → Type 0
IsBlankLock b ns = (list_means b ≡ worked_lock) × (ns ≡ [])

-- by 1,000: condition 2 is a tie, and leave is named
abbrev pub tied : OneVisit
tied = record {
  note = Ok 1;
  answer = Ok 4;
  values = negsuc 999 ∷ negsuc 1999 ∷ negsuc 3999 ∷ negsuc 5999 ∷ pos 0 ∷ pos 0 ∷ pos 0 ∷ pos 0 ∷ [];
  remedies = 0 ∷ 0 ∷ 0 ∷ 2 ∷ [];
}

-- by 1,001: overhaul is named
abbrev pub untied : OneVisit
untied = record {
  note = Ok 1;
  answer = Ok 4;
  values = negsuc 1000 ∷ negsuc 2000 ∷ negsuc 3999 ∷ negsuc 5999 ∷ pos 0 ∷ pos 0 ∷ pos 0 ∷ pos 0 ∷ [];
  remedies = 0 ∷ 0 ∷ 1 ∷ 2 ∷ [];
}

-- the answer of a plan by the mean, with room for 48 visits in its tables
pub record Answered (m : Model) (H : ℕ) (answer : Result ℕ PlanRefusal) : Type 0 where
  pub values_before : List ℤ
  pub values_after : List ℤ
  pub remedies_before : List ℕ
  pub remedies_after : List ℕ
  pub values_long : length values_before ≡ 196
  pub remedies_long : length remedies_before ≡ 192
  pub plan : PlanAnswers mean m H answer values_before values_after remedies_before remedies_after
