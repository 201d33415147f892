-- To compare by the floor, and by the mean where the floors are equal, is no criterion.
use Rattle.std.specs.Prelude.{Bool, true, false, cond, T, ℤ, int_lt}
use Rattle.criteria.specs.Criteria.{Ops, Laws}
use Rattle.criteria.specs.Mean.{mean}
use Rattle.criteria.specs.Floor.{floor}

-- a value, and an account, is a pair: what the floor makes of it, and what the mean does
abbrev pub floor_then_mean : Ops (ℤ × ℤ) (ℤ × ℤ)
floor_then_mean = record {
  closing = λ w. (floor.closing w, mean.closing w);
  blank = (floor.blank, mean.blank);
  enter = λ left parts share amount later account. (floor.enter left parts share amount later.0 account.0, mean.enter left parts share amount later.1 account.1);
  close = λ parts account. (floor.close parts account.0, mean.close parts account.1);
  good = λ x y. cond (int_lt y.0 x.0) true (cond (int_lt x.0 y.0) false (mean.good x.1 y.1));
}

-- whichever accounts are taken for the better ones, the laws do not hold
abbrev pub FloorThenMeanIsLawless : Type 0
FloorThenMeanIsLawless = (better : ℤ × ℤ → ℤ × ℤ → Bool) → Laws floor_then_mean (λ a b. T (better a b)) → ⊥
