-- The tests' own book: two conditions, two remedies, everything offered, one unit short of the hold.
use Rattle.std.specs.Prelude.{ℕ, Bool, cond, ◌&&◌, pos, nat_le, nat_lt, refl}
use Rattle.std.proofs.Common.{arith, lit≤}
use Rattle.std.proofs.lemmas.Bool.{cond_both}
use Rattle.model.specs.Model.{Model, Money, Lawful, offers}
use Rattle.model.specs.Passed.{taken, nothing}
use Rattle.sheets.specs.Keeping.{inside_is}

abbrev pub within_two : (n s r j : ℕ) → Bool
within_two n s r j = nat_le 1 n && nat_le n 48 && nat_lt s 2 && nat_lt r 2 && nat_lt j 2

abbrev pub flat_model : Model
flat_model = record {
  conditions = 2;
  remedies = 2;
  parts = 1;
  offered = λ n s r. within_two n s r 0;
  share = λ n s r j. 0;
  amount = λ n s r j. cond (within_two n s r j) (pos 999999999) (pos 0);
  worth = λ s. pos 0;
}

pub flat_lawful : Lawful flat_model
flat_lawful = record {
  some_condition = lit≤ tt;
  few_conditions = lit≤ tt;
  some_remedy = lit≤ tt;
  few_remedies = lit≤ tt;
  some_parts = lit≤ tt;
  few_parts = lit≤ tt;
  share_fits = λ n s r j. lit≤ tt;
  amount_fits = λ n s r j. cond_both (within_two n s r j) _ _ Money (λ _. record { low = record { le = tt }; high = record { le = tt } }) (λ _. nothing);
  worth_fits = λ s. nothing;
  offered_inside = λ n s r h. (inside_is (offers flat_model) n s r 0 h).0;
  share_inside = λ n s r j h. absurd (omega arith);
  amount_inside = λ n s r j h. inside_is (offers flat_model) n s r j (taken (within_two n s r j) (pos 999999999) (pos 0) h);
  worth_inside = λ s h. absurd (h refl);
}
