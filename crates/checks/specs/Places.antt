-- The first place of a search, in the order of visits, conditions and remedies.
use Rattle.std.specs.Prelude.{◌≡◌, ℕ, ◌+◌, ◌-◌, ◌*◌, ◌<◌, T, ◌⊎◌, List, length, slice_index, Option, MatchOption}
use Rattle.model.specs.Model.{Model, Offers, offers, weight}
use Rattle.model.specs.Visits.{Place, Before, Unoffered, SomeOffered, Uneven}

-- the first place where nothing is offered
pub record FirstStuck (o : Offers) (H n s : ℕ) : Type 0 where
  pub place : Place o H n s
  pub bare : Unoffered o n s
  pub first : (n' s' : ℕ) → Place o H n' s' → Before n' s' n s → SomeOffered o n' s'

-- the first place, and there the lowest remedy, that is offered and uneven
pub record FirstUneven (m : Model) (H n s r : ℕ) : Type 0 where
  pub place : Place (offers m) H n s
  pub odd : Uneven m n s r
  pub first : (n' s' r' : ℕ) → Place (offers m) H n' s' → (Before n' s' n s ⊎ ((n' ≡ n) × (s' ≡ s) × (r' < r))) → Uneven m n' s' r' → ⊥

-- the remedy that a table names at a visit in a condition
abbrev pub named : Offers → List ℕ → (n s : ℕ) → ℕ
named o rs n s = slice_index rs ((n - 1) * o.conditions + s)

-- the table names an offered remedy at every place
abbrev pub WellNamed : Offers → List ℕ → ℕ → Type 0
WellNamed o rs H = (n s : ℕ) → Place o H n s → T (o.offered n s (named o rs n s))

-- the first place where the table names a remedy that is not offered, and that remedy
pub record FirstMisnamed (o : Offers) (rs : List ℕ) (H n s r : ℕ) : Type 0 where
  pub place : Place o H n s
  pub names : r ≡ named o rs n s
  pub not_offered : T (o.offered n s r) → ⊥
  pub first : (n' s' : ℕ) → Place o H n' s' → Before n' s' n s → T (o.offered n' s' (named o rs n' s'))

-- a remedy is even at a place, if it is offered there
abbrev pub EvenUnder : Model → (n s r : ℕ) → Type 0
EvenUnder m n s r = T (m.offered n s r) → weight m n s r m.conditions ≡ m.parts

abbrev pub EvenIn : Model → (n s : ℕ) → Type 0
EvenIn m n s = (r : ℕ) → EvenUnder m n s r

-- what a search of n places in order finds: P holds of all, or of all before the one that is found, of which Q holds
abbrev pub FirstOf : {X : Type 0} → (X → ℕ) → ℕ → (ℕ → Type 0) → (X → Type 0) → Option X → Type 0
FirstOf place n P Q found = MatchOption found ((k : ℕ) → k < n → P k) (λ x. (place x < n) × Q x × ((k : ℕ) → k < place x → P k))

-- at one visit: the first condition in which nothing is offered
abbrev pub FirstBare : Offers → ℕ → Option ℕ → Type 0
FirstBare o n = FirstOf (λ s. s) o.conditions (SomeOffered o n) (Unoffered o n)

-- in one condition: the lowest remedy that is offered and uneven
abbrev pub LowestUneven : Model → (n s r : ℕ) → Type 0
LowestUneven m n s r = Uneven m n s r × ((k : ℕ) → k < r → Uneven m n s k → ⊥)

abbrev pub FirstUnevenIn : Model → (n s : ℕ) → Option ℕ → Type 0
FirstUnevenIn m n s found = MatchOption found (EvenIn m n s) (LowestUneven m n s)

-- at one visit: the first condition with such a remedy, and that remedy
abbrev pub FirstUnevenAt : Model → ℕ → Option (ℕ × ℕ) → Type 0
FirstUnevenAt m n = FirstOf (λ p. p.0) m.conditions (EvenIn m n) (λ p. LowestUneven m n p.0 p.1)

-- at one visit, for which rs names a remedy in each of the first conditions: the first that is not offered, with its condition
abbrev pub FirstMisnamedAt : Offers → ℕ → List ℕ → Option (ℕ × ℕ) → Type 0
FirstMisnamedAt o n rs = FirstOf (λ p. p.0) (length rs) (λ s. T (o.offered n s (slice_index rs s))) (λ p. (p.1 ≡ slice_index rs p.0) × (T (o.offered n p.0 p.1) → ⊥))
