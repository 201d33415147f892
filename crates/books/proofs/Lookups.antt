-- What a look-up in a list of records finds.
use Rattle.std.proofs.Common.{◌≡◌, ℕ, zero, suc, ◌<◌, ◌≤◌, true, false, ltb, List, [], ◌∷◌, length, get_or, refl, ◌∙◌, subst, ⊎_elim, arith}
use Rattle.std.proofs.lemmas.Bool.{cond-true, cond-false, cases_lt, or_left, or_right, lt-ltb}
use Rattle.std.proofs.lemmas.Bool.Decides.{nat_tests}
use Rattle.books.specs.declared.record.Record.{Record}
use Rattle.books.specs.Alike.{some_above}
use Rattle.books.specs.Entries.{no_record, AllPlaced, StandBefore, rank, KeysRise}
use Rattle.books.specs.Listed.{about, listed}

pub listed_none : (es : List Record) (s x j : ℕ) → ((i : ℕ) → i < length es → about (get_or es i no_record) s x j ≡ false) → listed es s x j ≡ no_record
listed_none [] s x j h = refl
listed_none (e ∷ es) s x j h =
    cond-false (about e s x j) e (listed es s x j) (h 0 (omega arith)) ∙ listed_none es s x j (λ i l. h (suc i) (omega arith))

pub listed_at : (es : List Record) (s x j i : ℕ) → i < length es → ((k : ℕ) → k < i → about (get_or es k no_record) s x j ≡ false) → about (get_or es i no_record) s x j ≡ true → listed es s x j ≡ get_or es i no_record
listed_at [] s x j i l h e = absurd (omega arith)
listed_at (d ∷ es) s x j zero l h e = cond-true (about d s x j) d (listed es s x j) e
listed_at (d ∷ es) s x j (suc i) l h e =
    cond-false (about d s x j) d (listed es s x j) (h 0 (omega arith)) ∙ listed_at es s x j i (omega arith) (λ k m. h (suc k) (omega arith)) e

pub about_from : (e : Record) (s x j : ℕ) → e.condition ≡ s → e.remedy ≡ x → e.next ≡ j → about e s x j ≡ true
about_from e s x j a b d = grind (arith, nat_tests)

pub about_not : (e : Record) (s x j : ℕ) → ((e.condition ≡ s) × (e.remedy ≡ x) × (e.next ≡ j) → ⊥) → about e s x j ≡ false
about_not e s x j ne = grind (arith, nat_tests)

-- the record at i is the one that is found
pub listed_hit : (es : List Record) (s x j i : ℕ) → KeysRise es → i < length es → (get_or es i no_record).condition ≡ s → (get_or es i no_record).remedy ≡ x → (get_or es i no_record).next ≡ j → listed es s x j ≡ get_or es i no_record
listed_hit es s x j i up l a b d =
    listed_at es s x j i l (λ k m. about_not (get_or es k no_record) s x j (λ p. let u = up k i m l in omega arith)) (about_from (get_or es i no_record) s x j a b d)

module _ (es : List Record) (m w : ℕ) (up : KeysRise es) (stand : StandBefore es w m) where
  -- no record of a place that none from m on is of
  pub missed : (s x j : ℕ) → w ≤ rank s x j → ((i : ℕ) → m ≤ i → i < length es → ((get_or es i no_record).condition ≡ s) × ((get_or es i no_record).remedy ≡ x) × ((get_or es i no_record).next ≡ j) → ⊥) → listed es s x j ≡ no_record
  missed s x j e away = listed_none es s x j (λ i l. about_not (get_or es i no_record) s x j (λ p.
      ⊎_elim (λ b. let u = stand.below i b in omega arith) (λ b. away i b l p) (cases_lt i m)))

  pub listed_miss : (s x j : ℕ) → w ≡ rank s x j → (m < length es → ((get_or es m no_record).condition ≡ s) × ((get_or es m no_record).remedy ≡ x) × ((get_or es m no_record).next ≡ j) → ⊥) → listed es s x j ≡ no_record
  listed_miss s x j e away = missed s x j (omega arith) (λ i b l p.
      ⊎_elim
      (λ (a : m < i). let u = up m i a l in let v = stand.above m (omega arith) (omega arith) in omega arith)
      (λ (a : i ≤ m). let same : i ≡ m = omega arith in let P : ℕ → Type 0 = λ k. ((get_or es k no_record).condition ≡ s) × ((get_or es k no_record).remedy ≡ x) × ((get_or es k no_record).next ≡ j) in away (omega arith) (subst P same p))
      (cases_lt m i))

  -- no record of a row that the record at m is not of
  pub row_miss : (s x j : ℕ) → w ≡ rank s x 0 → AllPlaced 32 8 es → (m < length es → ((get_or es m no_record).condition ≡ s) × ((get_or es m no_record).remedy ≡ x) → ⊥) → listed es s x j ≡ no_record
  row_miss s x j e placed away = missed s x j (omega arith) (λ i b l p.
      ⊎_elim
      (λ (a : m < i). let u = up m i a l in let v = stand.above m (omega arith) (omega arith) in let q = placed m (omega arith) in let t = placed i l in away (omega arith) (omega arith, omega arith))
      (λ (a : i ≤ m). let same : i ≡ m = omega arith in let P : ℕ → Type 0 = λ k. ((get_or es k no_record).condition ≡ s) × ((get_or es k no_record).remedy ≡ x) in away (omega arith) (subst P same (p.0, p.1)))
      (cases_lt m i))

pub above_at : (f : ℕ → ℕ) (n k : ℕ) → k < n → 0 < f k → some_above f n ≡ true
above_at f zero k l e = absurd (omega arith)
above_at f (suc n) k l e =
    ⊎_elim (λ b. or_left (some_above f n) (ltb 0 (f n)) (above_at f n k b e)) (λ b. let same : k ≡ n = omega arith in let P : ℕ → Type 0 = λ i. 0 < f i in or_right (some_above f n) (ltb 0 (f n)) (lt-ltb _ _ (subst P same e))) (cases_lt k n)

pub above_none : (f : ℕ → ℕ) (n : ℕ) → ((k : ℕ) → k < n → f k ≡ 0) → some_above f n ≡ false
above_none f zero h = refl
above_none f (suc n) h = let e = h n (omega arith) in let rest = above_none f n (λ k l. h k (omega arith)) in grind (arith, nat_tests)
