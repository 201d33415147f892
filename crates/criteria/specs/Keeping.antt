-- Both criteria keep the laws.
use Rattle.std.specs.Prelude.{◌-◌, ◌^◌, T, ◌⊎◌, ℤ, pos, ◌*ℤ◌, ◌≤ℤ◌, int_le}
use Rattle.std.proofs.Common.{inl, inr, arith}
use Rattle.std.specs.Int.Signed.{≤ℤ_refl}
use Rattle.std.specs.Int.{int_min}
use Rattle.std.proofs.lemmas.Int.{ints, clamps, by_lt_z}
use Rattle.criteria.specs.Mean.{hold, MeanLawful}
use Rattle.criteria.specs.Floor.{FloorLawful}
use Rattle.criteria.specs.Ints.{hold_mono, times_mono, sum_mono}

total_order : (x y : ℤ) → T (int_le y x) ⊎ T (int_le x y)
total_order x y = by_lt_z x y (λ l. inr (omega (arith, ints))) (λ l. inl (omega (arith, ints)))

pub mean_lawful : MeanLawful
mean_lawful = record {
  total = total_order;
  trans = λ x y z a b. omega (arith, ints);
  itself = ≤ℤ_refl;
  enters = λ left parts share amount v w a b holds g h. hold_mono _ _ (sum_mono _ _ _ _ h (hold_mono _ _ (times_mono share _ _ (hold_mono _ _ (sum_mono (hold (hold (pos (parts ^ (left - 1))) *ℤ amount)) _ w v (≤ℤ_refl _) (record { le = g }))))));
  closes = λ parts a b low high h. h.le;
}

min_mono : (a b c d : ℤ) → a ≤ℤ b → c ≤ℤ d → int_min a c ≤ℤ int_min b d
min_mono a b c d g h = omega (arith, ints, clamps)

pub floor_lawful : FloorLawful
floor_lawful = record {
  total = total_order;
  trans = λ x y z a b. omega (arith, ints);
  itself = ≤ℤ_refl;
  enters = λ left parts share amount v w a b holds g h. min_mono b a _ _ h (hold_mono _ _ (sum_mono amount amount w v (≤ℤ_refl amount) (record { le = g })));
  closes = λ parts a b low high h. h.le;
}
