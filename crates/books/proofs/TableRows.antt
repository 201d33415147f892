-- The rows of full tables are their outcomes.
use Rattle.std.proofs.Common.{◌≡◌, ℕ, ◌+◌, ◌<◌, Bool, true, false, cond, ◌&&◌, ltb, List, [], ◌∷◌, ◌++◌, slice_index, ℤ, sym, ap, ◌∙◌, arith}
use Rattle.std.proofs.lemmas.Bool.{cond-true, and_from, lt-ltb}
use Rattle.model.specs.Rows.{outcome, outcomes}
use Rattle.model.specs.declared.row.Outcome.{Outcome}
use Rattle.model.proofs.Listing.{listed_more}
use Rattle.books.specs.declared.table.TableBook.{TableBook}
use Rattle.books.specs.Alike.{inside}
use Rattle.books.specs.Means.{table_means}
use Rattle.books.specs.Tables.{spot}
use Rattle.books.proofs.Rows.{skip_to}

abbrev told : (next share : ℕ) → ℤ → Outcome
told next share amount = record { next = next; share = share; amount = amount }

module _ (book : TableBook) (n s x : ℕ) where
  -- outside the sizes a row has no outcome
  pub bare : inside book.sizes.conditions book.sizes.remedies n s x ≡ false → [] ≡ outcomes (table_means book) n s x book.sizes.conditions
  bare none =
      skip_to (table_means book) n s x book.sizes.conditions 0 (omega arith) (λ j a l. ap (λ (b : Bool). cond (b && ltb j book.sizes.conditions) (slice_index book.shares.now (spot book.sizes.conditions book.sizes.remedies s x j)) 0) none)

  module _ (some : inside book.sizes.conditions book.sizes.remedies n s x ≡ true) (first j : ℕ) (l : j < book.sizes.conditions) (starts : first ≡ spot book.sizes.conditions book.sizes.remedies s x 0) where
    here : (inside book.sizes.conditions book.sizes.remedies n s x && ltb j book.sizes.conditions) ≡ true
    here = and_from (inside book.sizes.conditions book.sizes.remedies n s x) (ltb j book.sizes.conditions) some (lt-ltb j book.sizes.conditions l)

    stands : spot book.sizes.conditions book.sizes.remedies s x j ≡ first + j
    stands = omega arith

    share_is : (table_means book).share n s x j ≡ slice_index book.shares.now (first + j)
    share_is =
        cond-true (inside book.sizes.conditions book.sizes.remedies n s x && ltb j book.sizes.conditions) (slice_index book.shares.now (spot book.sizes.conditions book.sizes.remedies s x j)) 0 here
        ∙ ap (slice_index book.shares.now) stands

    -- one outcome more
    pub outcome_more : (os : List Outcome) (o : Outcome) → os ≡ outcomes (table_means book) n s x j → o ≡ outcome (table_means book) n s x j → 0 < slice_index book.shares.now (first + j) → os ++ (o ∷ []) ≡ outcomes (table_means book) n s x (j + 1)
    outcome_more os o so is some_share =
        ap (λ (ps : List Outcome). ps ++ (o ∷ [])) so
        ∙ ap (λ (p : Outcome). outcomes (table_means book) n s x j ++ (p ∷ [])) is
        ∙ listed_more (table_means book) n s x j (omega (arith, share_is))

    pub outcome_is : (o : Outcome) → o.next ≡ j → o.share ≡ slice_index book.shares.now (first + j) → o.amount ≡ (table_means book).amount n s x j → o ≡ outcome (table_means book) n s x j
    outcome_is o next share amount =
        ap (λ (k : ℕ). told k o.share o.amount) next
        ∙ ap (λ (k : ℕ). told j k o.amount) (share ∙ sym share_is)
        ∙ ap (told j ((table_means book).share n s x j)) amount

    -- a share of 0 adds none
    pub none_more : (os : List Outcome) → os ≡ outcomes (table_means book) n s x j → slice_index book.shares.now (first + j) ≡ 0 → os ≡ outcomes (table_means book) n s x (j + 1)
    none_more os so zero_share =
        so ∙ skip_to (table_means book) n s x (j + 1) j (omega arith) (λ i a b. let same : i ≡ j = omega arith in ap ((table_means book).share n s x) same ∙ share_is ∙ zero_share)
