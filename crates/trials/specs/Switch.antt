-- A book of two conditions: a remedy leads to the condition of its number.
use Rattle.std.specs.Prelude.{ℕ, Bool, cond, ◌&&◌, pos, ◌==◌, nat_le, nat_lt}
use Rattle.model.specs.Model.{Model}

abbrev pub inside : (n s r : ℕ) → Bool
inside n s r = nat_le 1 n && (nat_le n 48 && (nat_lt s 2 && nat_lt r 2))

abbrev pub switch : Model
switch = record {
  conditions = 2;
  remedies = 2;
  parts = 1;
  offered = inside;
  share = λ n s r j. cond (inside n s r && j == r) 1 0;
  amount = λ n s r j. pos 0;
  worth = λ s. cond (s == 1) (pos 1) (pos 0);
}
