-- Tables with a row for each visit, an entry for each condition: the row n, from 0, is of the visit after n past visits.
use Rattle.std.specs.Prelude.{◌≡◌, ℕ, ◌+◌, ◌-◌, ◌*◌, ◌<◌, ◌≤◌, List, take, drop, pos, slice_index, slice_index_or}
use Rattle.model.specs.Model.{Model}
use Rattle.model.specs.Visits.{visit_after}
use Rattle.criteria.specs.Criteria.{Ops}
use Rattle.criteria.specs.Policies.{remedied}
use Rattle.planning.specs.Choosing.{Best}

-- what stands at a place of a table of values; past its end, the closing value of a worth of 0
abbrev pub at : {V A : Type 0} → Ops V A → List V → ℕ → V
at o vs i = slice_index_or vs i (o.closing (pos 0))

abbrev pub row_of : {V : Type 0} → Model → List V → ℕ → List V
row_of m vs n = take m.conditions (drop (n * m.conditions) vs)

-- what may be asked of an entry: visit, visits left, condition, the values of the row after it, its remedy, its value
abbrev pub Entry : Type 0 → Type 1
Entry V = (visit left s : ℕ) → List V → ℕ → V → Type 0

module _ {V A : Type 0} (o : Ops V A) (m : Model) where
  -- the value is that of the remedy
  abbrev pub Valued : Entry V
  Valued visit left s later r v = v ≡ remedied o m visit left s r (at o later)

  -- and the remedy is the best
  abbrev pub Chosen : Entry V
  Chosen visit left s later r v = Best o m visit left s (at o later) m.remedies r v

  -- the entries of a row are as asked
  abbrev pub AsAsked : Entry V → (visit left : ℕ) → (later values : List V) → (remedies : List ℕ) → Type 0
  AsAsked E visit left later vs rs = (s : ℕ) → s < m.conditions → E visit left s later (slice_index rs s) (at o vs s)

  -- the entries of a row are the closing values
  abbrev pub Closed : List V → Type 0
  Closed vs = (s : ℕ) → s < m.conditions → at o vs s ≡ o.closing (m.worth s)

  -- the rows from `from` on are as asked, and closed
  pub record Filled (E : Entry V) (visits from : ℕ) (vs : List V) (rs : List ℕ) : Type 0 where
    pub closed : Closed (row_of m vs visits)
    pub rows : (n : ℕ) → from ≤ n → n < visits → AsAsked E (visit_after n) (visits - n) (row_of m vs (n + 1)) (row_of m vs n) (row_of m rs n)

  -- they are written as asked, and what stands after them in both tables is kept
  pub record RowsWritten (E : Entry V) (visits from : ℕ) (vs vs' : List V) (rs rs' : List ℕ) : Type 0 where
    pub filled : Filled E visits from vs' rs'
    pub values : drop ((visits + 1) * m.conditions) vs' ≡ drop ((visits + 1) * m.conditions) vs
    pub remedies : drop (visits * m.conditions) rs' ≡ drop (visits * m.conditions) rs
