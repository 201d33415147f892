-- By the floor and then by the mean: (10, 0) is as good as (5, 100), and after both met a floor of 0 it is not.
use Rattle.std.proofs.Common.{T, ℤ, pos, arith, lit≤}
use Rattle.std.proofs.lemmas.Int.{ints}
use Rattle.criteria.specs.Criteria.{Laws, Holds}
use Rattle.criteria.specs.Mixed.{floor_then_mean, FloorThenMeanIsLawless}

half : Holds 1 2 1 (pos 0)
half = record { left_low = lit≤ tt; left_high = lit≤ tt; parts_low = lit≤ tt; parts_high = lit≤ tt; share_high = lit≤ tt; money = record { low = omega (arith, ints); high = omega (arith, ints) } }

-- for any relation at all
pub no_laws : (better : ℤ × ℤ → ℤ × ℤ → Type 0) → Laws floor_then_mean better → ⊥
no_laws better laws =
    let met : ℤ × ℤ = floor_then_mean.enter 1 2 1 (pos 0) (pos 0, pos 0) floor_then_mean.blank in
    laws.closes 2 _ _ (lit≤ tt) (lit≤ tt) (laws.enters 1 2 1 (pos 0) (pos 10, pos 0) (pos 5, pos 100) met met half tt (laws.itself met))

pub floor_then_mean_is_lawless : FloorThenMeanIsLawless
floor_then_mean_is_lawless better = no_laws (λ a b. T (better a b))
