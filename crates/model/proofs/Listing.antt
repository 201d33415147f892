-- One next condition more of a row.
use Rattle.std.proofs.Common.{◌≡◌, ℕ, ◌+◌, ◌<◌, ltb, [], ◌∷◌, ◌++◌, sym, ap, ◌∙◌, add-one, lt-ltb}
use Rattle.std.proofs.lemmas.Bool.{cond-true}
use Rattle.model.specs.Model.{Model}
use Rattle.model.specs.Rows.{outcome, outcomes}

module _ (m : Model) (n s r j : ℕ) where
  pub listed_more : 0 < m.share n s r j → outcomes m n s r j ++ (outcome m n s r j ∷ []) ≡ outcomes m n s r (j + 1)
  listed_more some =
      sym (cond-true (ltb 0 (m.share n s r j)) (outcomes m n s r j ++ (outcome m n s r j ∷ [])) (outcomes m n s r j) (lt-ltb 0 _ some))
      ∙ ap (outcomes m n s r) (sym (add-one j))
