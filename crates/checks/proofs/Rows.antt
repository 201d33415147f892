-- A row at once: what is gathered over the next conditions one by one is gathered over the outcomes of share above 0.
use Rattle.std.proofs.Common.{◌≡◌, ℕ, zero, suc, ◌+◌, ◌*◌, ◌^◌, ◌<◌, ◌≤◌, max, Bool, true, false, cond, ltb, List, [], ◌∷◌, ◌++◌, length, get_or, pos, nat_abs, fold, sum_by, refl, sym, ap, ◌∙◌, subst, arith}
use Rattle.std.specs.List.{All}
use Rattle.std.proofs.lemmas.Bool.{ltb-false}
use Rattle.std.proofs.lemmas.List.Elements.{All-nil, All-push, All-get_or}
use Rattle.std.proofs.lemmas.List.Sums.{fold_push, sum_by-append}
use Rattle.model.specs.Model.{Model, Lawful, weight}
use Rattle.model.specs.Rows.{outcome, outcomes}
use Rattle.model.specs.declared.row.Outcome.{Outcome}
use Rattle.checks.specs.Limit.{largest_under, most, greatest_size}

-- what a place beyond a row reads as
abbrev pub none_yet : Outcome
none_yet = record { next = 0; share = 0; amount = pos 0 }

module _ (m : Model) (n s r : ℕ) where
  -- what is gathered so far is that of the outcomes, if a share of 0 adds nothing
  pub folded_outcomes : {Y : Type 0} (f : Y → Outcome → Y) (F : ℕ → Y) →
      ((j : ℕ) → F (suc j) ≡ cond (ltb 0 (m.share n s r j)) (f (F j) (outcome m n s r j)) (F j)) →
      (j : ℕ) → F j ≡ fold f (F 0) (outcomes m n s r j)
  folded_outcomes f F step zero = λ _. F 0
  folded_outcomes f F step (suc j) = step j ∙ go (folded_outcomes f F step j) (ltb 0 (m.share n s r j))
    where
      go : F j ≡ fold f (F 0) (outcomes m n s r j) → (b : Bool) → cond b (f (F j) (outcome m n s r j)) (F j) ≡ fold f (F 0) (cond b (outcomes m n s r j ++ (outcome m n s r j ∷ [])) (outcomes m n s r j))
      go so true = ap (λ y. f y (outcome m n s r j)) so ∙ sym (fold_push f (F 0) (outcomes m n s r j) (outcome m n s r j))
      go so false = so

  pub all_outcomes : (P : Outcome → Type 0) (j : ℕ) → ((i : ℕ) → i < j → P (outcome m n s r i)) → All P (outcomes m n s r j)
  all_outcomes P zero each = All-nil P
  all_outcomes P (suc j) each = go (all_outcomes P j (λ i l. each i (omega arith))) (ltb 0 (m.share n s r j))
    where
      go : All P (outcomes m n s r j) → (b : Bool) → All P (cond b (outcomes m n s r j ++ (outcome m n s r j ∷ [])) (outcomes m n s r j))
      go so true = All-push P (outcomes m n s r j) (outcome m n s r j) so (each j (omega arith))
      go so false = so

  -- what holds of the outcome of each next condition holds of each in the row
  pub row_each : (P : Outcome → Type 0) (j : ℕ) (xs : List Outcome) (i : ℕ) → xs ≡ outcomes m n s r j → i < length xs → ((k : ℕ) → k < j → P (outcome m n s r k)) → P (get_or xs i none_yet)
  row_each P j xs i e l each = All-get_or P xs i none_yet l (subst (All P) (sym e) (all_outcomes P j each))

  -- the shares of a row add to the weight
  pub shares_of_row : (j : ℕ) → sum_by (λ x. x.share) (outcomes m n s r j) ≡ weight m n s r j
  shares_of_row zero = refl
  shares_of_row (suc j) = go (shares_of_row j) (ltb 0 (m.share n s r j)) refl
    where
      go : sum_by (λ x. x.share) (outcomes m n s r j) ≡ weight m n s r j → (b : Bool) → ltb 0 (m.share n s r j) ≡ b → sum_by (λ x. x.share) (cond b (outcomes m n s r j ++ (outcome m n s r j ∷ [])) (outcomes m n s r j)) ≡ weight m n s r j + m.share n s r j
      go so true e = sum_by-append (λ x. x.share) (outcomes m n s r j) (outcome m n s r j ∷ []) ∙ omega (arith, so)
      go so false e = omega (arith, so, ltb-false 0 (m.share n s r j) e)

  -- and so their sum is small
  weight_low : Lawful m → (j : ℕ) → weight m n s r j ≤ 1000 * j
  weight_low lawful zero = omega arith
  weight_low lawful (suc j) = omega (arith, weight_low lawful j, lawful.share_fits n s r j, lawful.few_parts)

  pub shares_fit : Lawful m → (xs : List Outcome) → xs ≡ outcomes m n s r m.conditions → sum_by (λ x. x.share) xs < 2 ^ 32
  shares_fit lawful xs e = omega (arith, ap (sum_by (λ x. x.share)) e, shares_of_row m.conditions, weight_low lawful m.conditions, lawful.few_conditions)

  -- the largest size in a row
  pub size_of_row : (xs : List Outcome) → xs ≡ outcomes m n s r m.conditions → greatest_size xs ≡ largest_under m n s r
  size_of_row xs e = ap greatest_size e ∙ sym (folded_outcomes (λ top x. max top (nat_abs x.amount)) (λ j. most j size) (λ k. step (ltb 0 (m.share n s r k)) (most k size) (nat_abs (m.amount n s r k))) m.conditions)
    where
      size : ℕ → ℕ
      size j = cond (ltb 0 (m.share n s r j)) (nat_abs (m.amount n s r j)) 0

      step : (b : Bool) (top z : ℕ) → max top (cond b z 0) ≡ cond b (max top z) top
      step true top z = refl
      step false top z = omega arith
