-- The account of a row: its outcomes entered one by one.
use Rattle.std.proofs.Common.{◌≡◌, ℕ, ◌+◌, ◌<◌, List, length, get_or, take, ℤ, fold, sym, refl, ap, ◌∙◌, subst}
use Rattle.std.proofs.lemmas.List.Sums.{fold_more}
use Rattle.model.specs.Model.{Model}
use Rattle.model.specs.Rows.{outcomes}
use Rattle.model.specs.declared.row.Outcome.{Outcome}
use Rattle.criteria.specs.Criteria.{Ops}
use Rattle.criteria.specs.Policies.{entered}
use Rattle.checks.proofs.Rows.{none_yet, folded_outcomes, row_each}

-- one outcome more in an account
abbrev pub enter_one : {V A : Type 0} → Ops V A → (left parts : ℕ) → (ℕ → V) → A → Outcome → A
enter_one o left parts later sum x = o.enter left parts x.share x.amount (later x.next) sum

-- the account of a list of outcomes
abbrev pub account_of : {V A : Type 0} → Ops V A → (left parts : ℕ) → (ℕ → V) → List Outcome → A
account_of o left parts later xs = fold (enter_one o left parts later) o.blank xs

module _ {V A : Type 0} (o : Ops V A) (left : ℕ) (later : ℕ → V) where
  pub account_more : (parts parts' : ℕ) (xs : List Outcome) (i : ℕ) (d : Outcome) (amount : ℤ) (v : V) (sum : A) → i < length xs →
      parts ≡ parts' → amount ≡ (get_or xs i d).amount → v ≡ later (get_or xs i d).next → sum ≡ account_of o left parts' later (take i xs) →
      o.enter left parts (get_or xs i d).share amount v sum ≡ account_of o left parts' later (take (i + 1) xs)
  account_more parts parts' xs i d amount v sum l p a e so =
      let same : o.enter left parts (get_or xs i d).share amount v sum ≡ enter_one o left parts' later (account_of o left parts' later (take i xs)) (get_or xs i d) = cc in
      same ∙ sym (fold_more (enter_one o left parts' later) o.blank xs i d l)

  -- all outcomes of a row
  pub account_all : (m : Model) (visit s r j : ℕ) (xs : List Outcome) → xs ≡ outcomes m visit s r j → account_of o left m.parts later xs ≡ entered o m visit left s r later j
  account_all m visit s r j xs e =
      ap (account_of o left m.parts later) e ∙ sym (folded_outcomes m visit s r (enter_one o left m.parts later) (entered o m visit left s r later) (λ j. refl) j)

-- an outcome of a row is of one of the next conditions
pub next_below : (m : Model) (visit s r j long : ℕ) (xs : List Outcome) (i : ℕ) → long ≡ j → xs ≡ outcomes m visit s r j → i < length xs → (get_or xs i none_yet).next < long
next_below m visit s r j long xs i all e l = subst (λ (k : ℕ). (get_or xs i none_yet).next < k) (sym all) (row_each m visit s r (λ x. x.next < j) j xs i e l (λ k low. low))
