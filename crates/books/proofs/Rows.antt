-- The records of a row are its outcomes.
use Rattle.std.proofs.Common.{◌≡◌, ℕ, zero, suc, ◌+◌, ◌-◌, ◌<◌, ◌≤◌, Bool, true, false, cond, ◌&&◌, ltb, List, [], ◌∷◌, ◌++◌, length, get_or, pos, sym, refl, ap, ◌∙◌, subst, ⊎_elim, arith}
use Rattle.std.proofs.lemmas.Bool.{cond-true, cond-false, and_from, and_parts, ltb-true, ltb-false, cases_lt, lt-ltb, le-ltb}
use Rattle.std.proofs.lemmas.List.{get_or_default}
use Rattle.std.specs.List.Sorted.{IsPartitionedBy, IsPartitionPoint}
use Rattle.model.specs.Model.{Model}
use Rattle.model.specs.Rows.{outcome, outcomes}
use Rattle.model.specs.declared.row.Outcome.{Outcome}
use Rattle.model.proofs.Listing.{listed_more}
use Rattle.books.specs.declared.list.ListBook.{ListBook}
use Rattle.books.specs.declared.record.Record.{Record}
use Rattle.books.specs.Alike.{inside}
use Rattle.books.specs.Entries.{no_record, outcome_of, StandBefore, IsRow, rank, key}
use Rattle.books.specs.Listed.{listed}
use Rattle.books.specs.Means.{list_means}
use Rattle.books.proofs.Lookups.{listed_hit, missed}

-- shares of 0 add no outcome
pub skip_to : (m : Model) (n s x t j : ℕ) → j ≤ t → ((i : ℕ) → j ≤ i → i < t → m.share n s x i ≡ 0) → outcomes m n s x j ≡ outcomes m n s x t
skip_to m n s x zero j l none = let same : j ≡ 0 = omega arith in ap (outcomes m n s x) same
skip_to m n s x (suc t) j l none =
    ⊎_elim
    (λ (b : j < suc t). let here = none t (omega arith) (omega arith) in
    skip_to m n s x t j (omega arith) (λ i a d. none i a (omega arith))
    ∙ sym (cond-false (ltb 0 (m.share n s x t)) _ (outcomes m n s x t) (le-ltb 0 _ (omega arith))))
    (λ (b : suc t ≤ j). let same : j ≡ suc t = omega arith in ap (outcomes m n s x) same)
    (cases_lt j (suc t))

-- a record at or after a place of a row, and not of the row, is after the row
past_row : (e : Record) (s x j : ℕ) → x < 8 → e.remedy < 8 → e.next < 32 → rank s x j ≤ key e → ((e.condition ≡ s) × (e.remedy ≡ x) → ⊥) → rank s x 32 ≤ key e
past_row e s x j xl rl nl l away = grind arith

-- a record of the row's is of the row
module _ (book : ListBook) (s x i : ℕ) (records : List Record) (row : IsRow book.listing.records.now s x records) (xl : x < 8) (l : i < length records) where
  abbrev at : ℕ
  at = row.first + i

  pub inside_row : at < length book.listing.records.now
  inside_row = let within = row.to.within in omega arith

  pub of_row : ((get_or book.listing.records.now at no_record).condition ≡ s) × ((get_or book.listing.records.now at no_record).remedy ≡ x)
  of_row =
      let low = row.from.above at (omega arith) inside_row in
      let high = row.to.below at (omega arith) in
      let p = book.listing.placed at inside_row in (omega arith, omega arith)

-- where the records of a row that stand before a next condition end
module _ (book : ListBook) (s x j : ℕ) (records : List Record) (row : IsRow book.listing.records.now s x records) (xl : x < 8) (jl : j < 32) where
  pub at_row : (k : ℕ) (d : Record) → k < length records → get_or records k d ≡ get_or book.listing.records.now (row.first + k) no_record
  at_row k d l = get_or_default records k d no_record l ∙ row.same k l

  is_before : (k : ℕ) (d : Record) → k < length records → ltb (get_or records k d).next j ≡ ltb (get_or book.listing.records.now (row.first + k) no_record).next j
  is_before k d l = ap (λ (e : Record). ltb e.next j) (at_row k d l)

  next_rises : (i k : ℕ) → i < k → k < length records → (get_or book.listing.records.now (row.first + i) no_record).next < (get_or book.listing.records.now (row.first + k) no_record).next
  next_rises i k l m =
      let up = book.listing.rise (row.first + i) (row.first + k) (omega arith) (inside_row book s x k records row xl m) in
      let a = of_row book s x i records row xl (omega arith) in
      let b = of_row book s x k records row xl m in omega arith

  -- those before it come first
  pub nexts_first : IsPartitionedBy (λ e. ltb e.next j) records
  nexts_first i k d l m e =
      let a = ltb-true _ _ (sym (is_before k d m) ∙ e) in
      let up : (get_or book.listing.records.now (row.first + i) no_record).next ≤ (get_or book.listing.records.now (row.first + k) no_record).next =
      ⊎_elim
      (λ (b : i < k). omega (arith, next_rises i k b m))
      (λ (b : k ≤ i). let same : i ≡ k = omega arith in omega (arith, ap (λ (n : ℕ). (get_or book.listing.records.now (row.first + n) no_record).next) same))
      (cases_lt i k) in
      is_before i d (omega arith) ∙ lt-ltb _ _ (omega arith)

  module _ (m : ℕ) (l : m ≤ length records) (point : IsPartitionPoint (λ e. ltb e.next j ≡ true) (λ e. ltb e.next j ≡ false) records m) where
    below_in : (k : ℕ) → k < m → key (get_or book.listing.records.now (row.first + k) no_record) < rank s x j
    below_in k a =
        let n = ltb-true _ _ (sym (is_before k no_record (omega arith)) ∙ point.0 k no_record (omega arith) a) in
        let p = of_row book s x k records row xl (omega arith) in omega arith

    above_in : (k : ℕ) → m ≤ k → k < length records → rank s x j ≤ key (get_or book.listing.records.now (row.first + k) no_record)
    above_in k a b =
        let n = ltb-false _ _ (sym (is_before k no_record b) ∙ point.1 k no_record a b) in
        let p = of_row book s x k records row xl b in omega arith

    pub stand_in_row : StandBefore book.listing.records.now (rank s x j) (row.first + m)
    stand_in_row = record {
      within = let w = row.to.within in omega arith;
      below = λ i a. ⊎_elim
          (λ (b : i < row.first). let u = row.from.below i b in omega arith)
          (λ (b : row.first ≤ i). let same : row.first + (i - row.first) ≡ i = omega arith in subst (λ (n : ℕ). key (get_or book.listing.records.now n no_record) < rank s x j) same (below_in (i - row.first) (omega arith)))
          (cases_lt i row.first);
      above = λ i a b. ⊎_elim
          (λ (d : i < row.first + length records). let same : row.first + (i - row.first) ≡ i = omega arith in subst (λ (n : ℕ). rank s x j ≤ key (get_or book.listing.records.now n no_record)) same (above_in (i - row.first) (omega arith) (omega arith)))
          (λ (d : row.first + length records ≤ i). let u = row.to.above i d b in omega arith)
          (cases_lt i (row.first + length records));
    }

module _ (book : ListBook) (n s x : ℕ) where
  -- outside the sizes a row has no outcome
  pub outside : inside book.sizes.conditions book.sizes.remedies n s x ≡ false → [] ≡ outcomes (list_means book) n s x book.sizes.conditions
  outside none =
      skip_to (list_means book) n s x book.sizes.conditions 0 (omega arith) (λ j a l. ap (λ (b : Bool). cond (b && ltb j book.sizes.conditions) (listed book.listing.records.now s x j).share 0) none)

  -- the first `at` records stand before next condition j of the row, the others do not
  module _ (some : inside book.sizes.conditions book.sizes.remedies n s x ≡ true) (at j : ℕ) (stand : StandBefore book.listing.records.now (rank s x j) at) where
    here : (k : ℕ) → k < book.sizes.conditions → (inside book.sizes.conditions book.sizes.remedies n s x && ltb k book.sizes.conditions) ≡ true
    here k l = and_from (inside book.sizes.conditions book.sizes.remedies n s x) (ltb k book.sizes.conditions) some (lt-ltb k book.sizes.conditions l)

    share_is : (k : ℕ) → k < book.sizes.conditions → (list_means book).share n s x k ≡ (listed book.listing.records.now s x k).share
    share_is k l = cond-true (inside book.sizes.conditions book.sizes.remedies n s x && ltb k book.sizes.conditions) (listed book.listing.records.now s x k).share 0 (here k l)

    amount_is : (k : ℕ) → k < book.sizes.conditions → (list_means book).amount n s x k ≡ (listed book.listing.records.now s x k).amount
    amount_is k l = cond-true (inside book.sizes.conditions book.sizes.remedies n s x && ltb k book.sizes.conditions) (listed book.listing.records.now s x k).amount (pos 0) (here k l)

    -- a place that the record there does not stand before, the later ones do not either
    from_there : (w : ℕ) → (at < length book.listing.records.now → w ≤ key (get_or book.listing.records.now at no_record)) → (i : ℕ) → at ≤ i → i < length book.listing.records.now → w ≤ key (get_or book.listing.records.now i no_record)
    from_there w first i d m =
        ⊎_elim
        (λ (b : at < i). let u = first (omega arith) in let v = book.listing.rise at i b m in omega arith)
        (λ (b : i ≤ at). let same : at ≡ i = omega arith in subst (λ (k : ℕ). w ≤ key (get_or book.listing.records.now k no_record)) same (first (omega arith)))
        (cases_lt at i)

    -- no share from j to a next condition that the record there does not stand before
    skipped : (t : ℕ) → j ≤ t → t ≤ book.sizes.conditions → (at < length book.listing.records.now → rank s x t ≤ key (get_or book.listing.records.now at no_record)) → outcomes (list_means book) n s x j ≡ outcomes (list_means book) n s x t
    skipped t l m first =
        skip_to (list_means book) n s x t j l (λ i d q. share_is i (omega arith) ∙ ap (λ (f : Record). f.share) (missed book.listing.records.now at (rank s x j) book.listing.rise stand s x i (omega arith) (λ k a b p. let u = from_there (rank s x t) first k a b in omega arith)))

    -- the record there is of another row: the row is at its end
    pub finished : j ≤ book.sizes.conditions → (at < length book.listing.records.now → ((get_or book.listing.records.now at no_record).condition ≡ s) × ((get_or book.listing.records.now at no_record).remedy ≡ x) → ⊥) → outcomes (list_means book) n s x j ≡ outcomes (list_means book) n s x book.sizes.conditions
    finished l away =
        let few = book.sizes.fit.few_conditions in
        let few_remedies = book.sizes.fit.few_remedies in
        let xl = ltb-true x book.sizes.remedies (and_parts _ (ltb x book.sizes.remedies) some).1 in
        skipped book.sizes.conditions l (omega arith) (λ m. let p = book.records_placed at m in let q = past_row (get_or book.listing.records.now at no_record) s x j (omega arith) (omega arith) (omega arith) (stand.above at (omega arith) m) (away m) in omega arith)

    -- it is of the row: one outcome more
    module _ (l : at < length book.listing.records.now) (a : (get_or book.listing.records.now at no_record).condition ≡ s) (b : (get_or book.listing.records.now at no_record).remedy ≡ x) where
      pub later : j ≤ (get_or book.listing.records.now at no_record).next
      later = let u = stand.above at (omega arith) l in omega arith

      pub written : (row : List Outcome) (o : Outcome) → o ≡ outcome_of (get_or book.listing.records.now at no_record) → row ≡ outcomes (list_means book) n s x j → row ++ (o ∷ []) ≡ outcomes (list_means book) n s x ((get_or book.listing.records.now at no_record).next + 1)
      written row o told so =
          let t = (get_or book.listing.records.now at no_record).next in
          let tl = (book.records_placed at l).2 in
          let hit : listed book.listing.records.now s x t ≡ get_or book.listing.records.now at no_record = listed_hit book.listing.records.now s x t at book.listing.rise l a b refl in
          let share : (get_or book.listing.records.now at no_record).share ≡ (list_means book).share n s x t = sym (share_is t tl ∙ ap (λ (f : Record). f.share) hit) in
          let gain : (get_or book.listing.records.now at no_record).amount ≡ (list_means book).amount n s x t = sym (amount_is t tl ∙ ap (λ (f : Record). f.amount) hit) in
          let same : o ≡ outcome (list_means book) n s x t = told ∙ (λ i. record { next = t; share = share i; amount = gain i }) in
          ap (λ (xs : List Outcome). xs ++ (o ∷ [])) (so ∙ skipped t later (omega arith) (λ m. omega arith))
          ∙ ap (λ (y : Outcome). outcomes (list_means book) n s x t ++ (y ∷ [])) same
          ∙ listed_more (list_means book) n s x t (subst (λ (k : ℕ). 0 < k) share (book.records_valued at l).0)

      pub stand_more : (next : ℕ) → next ≡ at + 1 → StandBefore book.listing.records.now (rank s x ((get_or book.listing.records.now at no_record).next + 1)) next
      stand_more next one =
          let u = later in
          record {
            within = omega arith;
            below = λ i m.
                ⊎_elim
                (λ (d : i < at). let v = stand.below i d in omega arith)
                (λ (d : at ≤ i). let same : at ≡ i = omega arith in subst (λ (k : ℕ). key (get_or book.listing.records.now k no_record) < rank s x ((get_or book.listing.records.now at no_record).next + 1)) same (omega arith))
                (cases_lt i at);
            above = λ i m d. let v = book.listing.rise at i (omega arith) d in omega arith;
          }
