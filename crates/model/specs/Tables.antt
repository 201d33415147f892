-- Tables of which a call writes the first entries.
use Rattle.std.specs.Prelude.{◌≡◌, ℕ, List, length, drop}

-- a table is written in its first n entries and keeps the others
pub record KeptPast {A : Type 0} (n : ℕ) (before after : List A) : Type 0 where
  pub long : length after ≡ length before
  pub past : drop n after ≡ drop n before
