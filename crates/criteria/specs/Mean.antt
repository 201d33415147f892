-- The mean criterion.
use Rattle.std.specs.Prelude.{◌≡◌, ℕ, ◌-◌, ◌^◌, ◌<◌, List, ℤ, pos, ◌+ℤ◌, ◌*ℤ◌, ◌≤ℤ◌, int_le, slice_index_or}
use Rattle.std.specs.Int.{saturate_to_bits}
use Rattle.criteria.specs.Criteria.{Ops, Laws}

-- the nearest number that 64 bits with a sign can hold
abbrev pub hold : ℤ → ℤ
hold z = saturate_to_bits 63 z

-- a list has the first powers of a base, each held
abbrev pub PowersOf : ℕ → List ℤ → Type 0
PowersOf base powers = (k : ℕ) → k < 48 → slice_index_or powers k (pos 0) ≡ hold (pos (base ^ k))

-- an entry: share × (parts ^ (left − 1) × amount + later value) more, each result held
abbrev pub mean : Ops ℤ ℤ
mean = record {
  closing = λ w. w;
  blank = pos 0;
  enter = λ left parts share amount later account. hold (account +ℤ hold (pos share *ℤ hold (hold (hold (pos (parts ^ (left - 1))) *ℤ amount) +ℤ later)));
  close = λ parts account. account;
  good = λ x y. int_le y x;
}

abbrev pub at_least : ℤ → ℤ → Type 0
at_least a b = b ≤ℤ a

abbrev pub MeanLawful : Type 0
MeanLawful = Laws mean at_least
