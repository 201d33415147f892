-- The floor criterion: the worst that may come.
use Rattle.std.specs.Prelude.{◌-◌, ◌^◌, ℤ, pos, ◌+ℤ◌, int_le}
use Rattle.std.specs.Int.{int_min}
use Rattle.criteria.specs.Criteria.{Ops, Laws}
use Rattle.criteria.specs.Mean.{hold, at_least}

-- an entry: the smaller of the account and amount + later value, held
abbrev pub floor : Ops ℤ ℤ
floor = record {
  closing = λ w. w;
  blank = pos (2 ^ 63 - 1);
  enter = λ left parts share amount later account. int_min account (hold (amount +ℤ later));
  close = λ parts account. account;
  good = λ x y. int_le y x;
}

abbrev pub FloorLawful : Type 0
FloorLawful = Laws floor at_least
