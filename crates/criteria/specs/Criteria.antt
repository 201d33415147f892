-- What a criterion computes, and the laws that it keeps.
use Rattle.std.specs.Prelude.{ℕ, ◌≤◌, Bool, T, ◌⊎◌, ℤ}
use Rattle.model.specs.Model.{Money}

-- V are the values that are compared; A are accounts, into which the outcomes of one visit are entered one by one
pub record Ops (V A : Type 0) : Type 0 where
  -- the value of a worth
  pub closing : ℤ → V
  pub blank : A
  -- visits left (this one counted), parts, share, amount, later value, account
  pub enter : ℕ → ℕ → ℕ → ℤ → V → A → A
  -- parts, account
  pub close : ℕ → A → V
  -- the first is at least as good as the second
  pub good : V → V → Bool

-- numbers that a book may hold
pub record Holds (left parts share : ℕ) (amount : ℤ) : Type 0 where
  pub left_low : 1 ≤ left
  pub left_high : left ≤ 48
  pub parts_low : 1 ≤ parts
  pub parts_high : parts ≤ 1000
  pub share_high : share ≤ parts
  pub money : Money amount

-- of any two values one is at least as good, through a third too; entering and closing keep the order of accounts
pub record Laws {V A : Type 0} (o : Ops V A) (better : A → A → Type 0) : Type 0 where
  pub total : (x y : V) → T (o.good x y) ⊎ T (o.good y x)
  pub trans : (x y z : V) → T (o.good x y) → T (o.good y z) → T (o.good x z)
  pub itself : (a : A) → better a a
  pub enters : (left parts share : ℕ) (amount : ℤ) (v w : V) (a b : A) → Holds left parts share amount → T (o.good v w) → better a b → better (o.enter left parts share amount v a) (o.enter left parts share amount w b)
  pub closes : (parts : ℕ) (a b : A) → 1 ≤ parts → parts ≤ 1000 → better a b → T (o.good (o.close parts a) (o.close parts b))
