-- Policies that may look at the whole history, and what they are worth.
use Rattle.std.specs.Prelude.{◌≡◌, ℕ, zero, suc, ◌+◌, ◌*◌, ◌<◌, cond, T, List, [], ◌∷◌, ◌++◌, length, nat_lt, slice_index}
use Rattle.model.specs.Model.{Model, Offers, offers, Lawful}
use Rattle.model.specs.Visits.{visit_after}
use Rattle.criteria.specs.Criteria.{Ops}

-- one visit of the past: the condition found and the remedy given
pub record Step : Type 0 where
  pub condition : ℕ
  pub remedy : ℕ

abbrev pub History : Type 0
History = List Step

-- the visit that comes after a history
abbrev pub next_visit : History → ℕ
next_visit h = visit_after (length h)

abbrev pub Within : Offers → History → Type 0
Within o [] = Unit {0}
Within o (x ∷ h) = (x.condition < o.conditions) × (x.remedy < o.remedies) × Within o h

-- after a history, in a condition, a remedy
abbrev pub Choice : Type 0
Choice = History → ℕ → ℕ

-- a policy for some visits names an offered remedy after every history
abbrev pub Policy : Offers → ℕ → Choice → Type 0
Policy o visits p = (h : History) (s : ℕ) → length h < visits → Within o h → s < o.conditions → T (o.offered (next_visit h) s (p h s))

-- whatever is offered is one of the remedies: all that some laws of policies need of a book
abbrev pub OffersItsOwn : Offers → Type 0
OffersItsOwn o = (n s r : ℕ) → T (o.offered n s r) → r < o.remedies

abbrev pub BooksOfferTheirOwn : Type 0
BooksOfferTheirOwn = (m : Model) → Lawful m → OffersItsOwn (offers m)

-- the history, and the visit that the choice makes of it in a condition
abbrev pub onward : Choice → History → ℕ → History
onward p h s = h ++ (record { condition = s; remedy = p h s } ∷ [])

module _ {V A : Type 0} (o : Ops V A) (m : Model) where
  -- the account after the first j next conditions, at a visit with `left` visits left, in a condition, under a remedy, with the values that follow
  abbrev pub entered : (visit left s r : ℕ) → (ℕ → V) → ℕ → A
  entered visit left s r later zero = o.blank
  entered visit left s r later (suc j) = cond (nat_lt 0 (m.share visit s r j)) (o.enter left m.parts (m.share visit s r j) (m.amount visit s r j) (later j) (entered visit left s r later j)) (entered visit left s r later j)

  abbrev pub remedied : (visit left s r : ℕ) → (ℕ → V) → V
  remedied visit left s r later = o.close m.parts (entered visit left s r later m.conditions)

  -- the value of a policy with k visits left, after a history, in a condition
  abbrev pub value : Choice → ℕ → History → ℕ → V
  value p zero h s = o.closing (m.worth s)
  value p (suc k) h s = remedied (next_visit h) (suc k) s (p h s) (λ j. value p k (onward p h s) j)

  -- at least as good as every policy for its visits, at every visit, after every history, in every condition
  abbrev pub Unbeaten : ℕ → Choice → Type 0
  Unbeaten visits p = (q : Choice) → Policy (offers m) visits q → (h : History) (k s : ℕ) → length h + k ≡ visits → Within (offers m) h → s < m.conditions → T (o.good (value p k h s) (value q k h s))

-- the policy that a table of remedies names, whatever the history
abbrev pub tabled : Offers → List ℕ → Choice
tabled o t h s = slice_index t (length h * o.conditions + s)
