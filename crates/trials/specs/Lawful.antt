-- The book of two conditions is lawful.
use Rattle.std.specs.Prelude.{◌≡◌, ℕ, ◌≤◌, ◌&&◌, T, pos, ◌==◌, refl}
use Rattle.std.proofs.Common.{arith, lit≤}
use Rattle.std.proofs.Math.Facts.{and_yes, eqb_yes}
use Rattle.std.proofs.lemmas.Bool.{cond_both}
use Rattle.std.proofs.lemmas.Bool.Decides.{nat_tests}
use Rattle.model.specs.Model.{Lawful, Money, Inside, offers}
use Rattle.model.specs.Passed.{is_true, taken, some_of, nothing}
use Rattle.trials.specs.Switch.{inside, switch}

within : (n s r : ℕ) → T (inside n s r) → Inside (offers switch) n s r
within n s r t =
    let all = is_true (inside n s r) t in
    record { first_visit = grind (arith, nat_tests); last_visit = grind (arith, nat_tests); some_condition = grind (arith, nat_tests); some_remedy = grind (arith, nat_tests) }

pub switch_lawful : Lawful switch
switch_lawful = record {
  some_condition = omega arith;
  few_conditions = omega arith;
  some_remedy = omega arith;
  few_remedies = omega arith;
  some_parts = omega arith;
  few_parts = omega arith;
  share_fits = λ n s r j. cond_both (inside n s r && j == r) 1 0 (λ x. x ≤ 1) (λ _. lit≤ tt) (λ _. lit≤ tt);
  amount_fits = λ n s r j. nothing;
  worth_fits = λ s. cond_both (s == 1) (pos 1) (pos 0) Money (λ _. record { low = record { le = tt }; high = record { le = tt } }) (λ _. nothing);
  offered_inside = within;
  share_inside = λ n s r j l.
      let a = and_yes (inside n s r) (j == r) (some_of _ 1 l) in
      let w = within n s r a.0 in
      let same = eqb_yes a.1 in
      (w, omega arith);
  amount_inside = λ n s r j e. absurd (e refl);
  worth_inside = λ s e. let same : s ≡ 1 = eqb_yes (taken (s == 1) (pos 1) (pos 0) e) in omega arith;
}
