-- A book with one condition and one remedy meets all that the laws ask.
use Rattle.std.proofs.Common.{◌≡◌, ℕ, suc, ◌+◌, ◌<◌, ◌≤◌, Bool, true, cond, ◌&&◌, T, leb, pos, refl, ap, subst, arith, lit≤, leb→le}
use Rattle.std.specs.Bool.{passes}
use Rattle.std.proofs.Math.Facts.{and_yes}
use Rattle.std.proofs.lemmas.Bool.{cond_both}
use Rattle.std.proofs.lemmas.Bool.Decides.{nat_tests}
use Rattle.model.specs.Model.{Model, offers, Lawful, Inside}
use Rattle.model.specs.Passed.{is_true, some_of, nothing}
use Rattle.model.specs.Visits.{visit_after, Even, Fits}
use Rattle.criteria.specs.Criteria.{Ops, Laws}
use Rattle.criteria.specs.Policies.{remedied}
use Rattle.criteria.specs.Mean.{at_least}
use Rattle.criteria.specs.Keeping.{mean_lawful, floor_lawful}
use Rattle.criteria.specs.Optimal.{ahead, Plan}
use Rattle.criteria.specs.Best.{PremisesCanBeMet}
use Rattle.criteria.proofs.Optimal.{same_good}

abbrev sits : ℕ → ℕ → ℕ → Bool
sits n s r = leb 1 n && (leb n 48 && (leb s 0 && leb r 0))

abbrev one : Model
one = record { conditions = 1; remedies = 1; parts = 1; offered = sits; share = λ n s r j. cond (sits n s r && leb j 0) 1 0; amount = λ n s r j. pos 0; worth = λ s. pos 0 }

inside : (n s r : ℕ) → T (sits n s r) → Inside (offers one) n s r
inside n s r h =
    let all = is_true (sits n s r) h in
    record { first_visit = grind (arith, nat_tests); last_visit = grind (arith, nat_tests); some_condition = grind (arith, nat_tests); some_remedy = grind (arith, nat_tests) }

lawful : Lawful one
lawful = record {
  some_condition = lit≤ tt;
  few_conditions = lit≤ tt;
  some_remedy = lit≤ tt;
  few_remedies = lit≤ tt;
  some_parts = lit≤ tt;
  few_parts = lit≤ tt;
  share_fits = λ n s r j. cond_both (sits n s r && leb j 0) 1 0 (λ x. x ≤ 1) (λ _. lit≤ tt) (λ _. lit≤ tt);
  amount_fits = λ n s r j. nothing;
  worth_fits = λ s. nothing;
  offered_inside = inside;
  share_inside = λ n s r j h. let a = and_yes (sits n s r) (leb j 0) (some_of _ 1 h) in (inside n s r a.0, omega (arith, leb→le j 0 a.1));
  amount_inside = λ n s r j h. absurd (h refl);
  worth_inside = λ s h. absurd (h refl);
}

even : Even one 48
even n s r place h = ap (λ b. 0 + cond (b && true) 1 0) (is_true (sits n s r) h)

fits : Fits one 48
fits = (1, record { one = lit≤ tt; worths = λ s l. lit≤ tt; amounts = λ n s r j place h l. lit≤ tt }, lit≤ tt)

-- the only remedy, by whatever criterion
planned : {V A : Type 0} (o : Ops V A) (better : A → A → Type 0) → Laws o better → Plan o one 48 (λ past s. 0)
planned o better laws = record { offers = offered; best = best }
  where
    offered : (past s : ℕ) → past < 48 → s < 1 → T (sits (visit_after past) s 0)
    offered past s l i = passes (sits (visit_after past) s 0) (grind (arith, nat_tests))

    best : (past k s r : ℕ) → past + suc k ≡ 48 → s < 1 → T (sits (visit_after past) s r) → T (o.good (ahead o one (λ past s. 0) past (suc k) s) (remedied o one (visit_after past) (suc k) s r (λ j. ahead o one (λ past s. 0) (suc past) k j)))
    best past k s r e i here =
        let only : 0 ≡ r = omega (arith, (inside (visit_after past) s r here).some_remedy) in
        subst (λ (x : ℕ). T (o.good (ahead o one (λ past s. 0) past (suc k) s) (remedied o one (visit_after past) (suc k) s x (λ j. ahead o one (λ past s. 0) (suc past) k j)))) only (same_good o better laws _)

pub premises_can_be_met_lem : PremisesCanBeMet
premises_can_be_met_lem = (one, (λ past s. 0), lawful, even, fits, planned _ at_least mean_lawful, planned _ at_least floor_lawful)
