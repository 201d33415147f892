-- Places of tables, and the numbers of sizes.
use Rattle.std.proofs.Common.{◌≡◌, ℕ, ◌<◌, arith}
use Rattle.books.specs.declared.sizes.Sizes.{Sizes}
use Rattle.books.specs.Making.{InTable}

-- what holds at the sizes of a book holds at the numbers that they were made of
pub at_numbers : (z : Sizes) (c r p : ℕ) (P : (c r p : ℕ) → Type 0) → (z.conditions ≡ c) × (z.remedies ≡ r) × (z.parts ≡ p) → P z.conditions z.remedies z.parts → P c r p
at_numbers z c r p P e h = rw (← e.0, ← e.1, ← e.2) h

pub in_first : (a b w t i : ℕ) → InTable a b w t i → t ≡ 1 → i < a
in_first a b w t i h e = grind arith

pub in_third : (a b w t i : ℕ) → InTable a b w t i → t ≡ 3 → i < w
in_third a b w t i h e = grind arith
