-- Books of which every visit is alike.
use Rattle.std.specs.Prelude.{ℕ, zero, suc, ◌≤◌, Bool, false, cond, ◌&&◌, ◌||◌, ℤ, pos, nat_le, nat_lt}
use Rattle.model.specs.Model.{Model}

-- sizes within the limits
pub record SizesFit (c r parts : ℕ) : Type 0 where
  pub some_condition : 1 ≤ c
  pub few_conditions : c ≤ 32
  pub some_remedy : 1 ≤ r
  pub few_remedies : r ≤ 8
  pub some_parts : 1 ≤ parts
  pub few_parts : parts ≤ 1000

-- a visit of 1 to 48, a condition and a remedy within the sizes
abbrev pub inside : (c r n s x : ℕ) → Bool
inside c r n s x = nat_le 1 n && nat_le n 48 && nat_lt s c && nat_lt x r

-- one of the first n is above 0
abbrev pub some_above : (ℕ → ℕ) → ℕ → Bool
some_above f zero = false
some_above f (suc n) = some_above f n || nat_lt 0 (f n)

-- a book of which every visit is alike, from its shares, amounts and worths by condition, remedy, next:
-- a remedy is offered where one of its shares is above 0
abbrev pub alike : (c r parts : ℕ) → (ℕ → ℕ → ℕ → ℕ) → (ℕ → ℕ → ℕ → ℤ) → (ℕ → ℤ) → Model
alike c r parts share amount worth = record {
  conditions = c;
  remedies = r;
  parts = parts;
  offered = λ n s x. inside c r n s x && some_above (share s x) c;
  share = λ n s x j. cond (inside c r n s x && nat_lt j c) (share s x j) 0;
  amount = λ n s x j. cond (inside c r n s x && nat_lt j c) (amount s x j) (pos 0);
  worth = λ s. cond (nat_lt s c) (worth s) (pos 0);
}
