-- What a test that passed tells, and what a number tells that is 0 where a test fails.
use Rattle.std.specs.Prelude.{◌≡◌, ℕ, ◌<◌, Bool, true, false, cond, T, pos, refl}
use Rattle.std.proofs.Common.{lt_irrefl}
use Rattle.model.specs.Model.{Money}

pub is_true : (b : Bool) → T b → b ≡ true
is_true true h = refl
is_true false h = absurd h

-- the first arm was taken, where the number differs from the other
pub taken : {A : Type 0} (b : Bool) (x y : A) → ¬ (cond b x y ≡ y) → T b
taken true x y h = tt
taken false x y h = absurd (h refl)

pub some_of : (b : Bool) (n : ℕ) → 0 < cond b n 0 → T b
some_of true n h = tt
some_of false n h = absurd (lt_irrefl 0 h)

pub nothing : Money (pos 0)
nothing = record { low = record { le = tt }; high = record { le = tt } }
