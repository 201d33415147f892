-- The worked lock: 16 parts; conditions good as new, minor problems, major problems, inoperable; remedies leave, overhaul, replace.
use Rattle.std.specs.Prelude.{ℕ, List, [], ◌∷◌, ℤ, pos, negsuc}
use Rattle.model.specs.Model.{Model}
use Rattle.books.specs.declared.record.Record.{Record}
use Rattle.books.specs.Listed.{list_model}

-- condition, remedy, next, share, amount
abbrev pub outcome : (s r j x : ℕ) → ℤ → Record
outcome s r j x a = record { condition = s; remedy = r; next = j; share = x; amount = a }

abbrev pub lock_records : List Record
lock_records =
    outcome 0 0 1 14 (pos 0) ∷
    outcome 0 0 2 1 (pos 0) ∷
    outcome 0 0 3 1 (pos 0) ∷
    outcome 0 1 1 16 (negsuc 3999) ∷
    outcome 0 2 0 16 (negsuc 5999) ∷
    outcome 1 0 1 12 (negsuc 999) ∷
    outcome 1 0 2 2 (negsuc 999) ∷
    outcome 1 0 3 2 (negsuc 999) ∷
    outcome 1 1 1 16 (negsuc 3999) ∷
    outcome 1 2 0 16 (negsuc 5999) ∷
    outcome 2 0 2 8 (negsuc 2999) ∷
    outcome 2 0 3 8 (negsuc 2999) ∷
    outcome 2 1 1 16 (negsuc 3999) ∷
    outcome 2 2 0 16 (negsuc 5999) ∷
    outcome 3 2 0 16 (negsuc 5999) ∷ []

abbrev pub lock_worths : List ℤ
lock_worths = pos 0 ∷ pos 0 ∷ pos 0 ∷ pos 0 ∷ []

abbrev pub worked_lock : Model
worked_lock = list_model 4 3 16 lock_records lock_worths

-- two visits by the mean: the values at visits 1 and 2 and after, and the remedies
abbrev pub mean_values : List ℤ
mean_values =
    negsuc 367999 ∷ negsuc 735999 ∷ negsuc 1279999 ∷ negsuc 1535999 ∷
    pos 0 ∷ negsuc 15999 ∷ negsuc 47999 ∷ negsuc 95999 ∷
    pos 0 ∷ pos 0 ∷ pos 0 ∷ pos 0 ∷ []

abbrev pub mean_remedies : List ℕ
mean_remedies = 0 ∷ 0 ∷ 1 ∷ 2 ∷ 0 ∷ 0 ∷ 0 ∷ 2 ∷ []

-- two visits by the floor
abbrev pub floor_values : List ℤ
floor_values =
    negsuc 4999 ∷ negsuc 4999 ∷ negsuc 4999 ∷ negsuc 5999 ∷
    pos 0 ∷ negsuc 999 ∷ negsuc 2999 ∷ negsuc 5999 ∷
    pos 0 ∷ pos 0 ∷ pos 0 ∷ pos 0 ∷ []

abbrev pub floor_remedies : List ℕ
floor_remedies = 1 ∷ 1 ∷ 1 ∷ 2 ∷ 0 ∷ 0 ∷ 0 ∷ 2 ∷ []
