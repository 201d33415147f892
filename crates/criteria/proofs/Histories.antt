-- Histories: one visit more, and one of any length.
use Rattle.std.proofs.Common.{◌≡◌, ℕ, zero, suc, ◌+◌, ◌<◌, ◌≤◌, T, [], ◌∷◌, ◌++◌, length, replicate, ◌∙◌, arith, length-append}
use lib.ListN.{length-replicate}
use Rattle.model.specs.Model.{Offers}
use Rattle.model.specs.Visits.{Place}
use Rattle.criteria.specs.Policies.{Step, History, next_visit, Within, Choice, Policy, OffersItsOwn, BooksOfferTheirOwn, onward}

pub books_offer_their_own : BooksOfferTheirOwn
books_offer_their_own m lawful n s r here = (lawful.offered_inside n s r here).some_remedy

pub within_more : (o : Offers) (h : History) (x : Step) → Within o h → x.condition < o.conditions → x.remedy < o.remedies → Within o (h ++ (x ∷ []))
within_more o [] x w a b = (a, b, tt)
within_more o (y ∷ h) x w a b = (w.0, w.1, within_more o h x w.2 a b)

pub length_more : (h : History) (x : Step) → length (h ++ (x ∷ [])) ≡ suc (length h)
length_more h x = length-append h (x ∷ []) ∙ omega arith

pub place_at : (o : Offers) (visits k : ℕ) (h : History) (s : ℕ) → length h + suc k ≤ visits → s < o.conditions → Place o visits (next_visit h) s
place_at o visits k h s l i = record { from = omega arith; to = omega arith; condition = i }

-- one visit on, under a policy
pub onward_within : (o : Offers) (visits : ℕ) (p : Choice) → OffersItsOwn o → Policy o visits p → (k : ℕ) (h : History) (s : ℕ) → length h + suc k ≤ visits → Within o h → s < o.conditions → (length (onward p h s) + k ≤ visits) × Within o (onward p h s) × T (o.offered (next_visit h) s (p h s))
onward_within o visits p own policy k h s l w i =
    let here = policy h s (omega arith) w i in
    (omega (arith, length_more h (record { condition = s; remedy = p h s })), within_more o h _ w i (own _ s (p h s) here), here)

-- a history of any length
pub long : ℕ → History
long n = replicate n (record { condition = 0; remedy = 0 })

pub long_length : (n : ℕ) → length (long n) ≡ n
unfolding long
long_length n = length-replicate n _

pub long_within : (o : Offers) → 0 < o.conditions → 0 < o.remedies → (n : ℕ) → Within o (long n)
unfolding long
long_within o some_condition some_remedy zero = tt
long_within o some_condition some_remedy (suc n) = (some_condition, some_remedy, long_within o some_condition some_remedy n)
