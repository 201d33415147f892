-- A sheet over a lawful book is lawful.
use Rattle.std.specs.Prelude.{ℕ, ◌<◌, not, T, List, ℤ, pos, ◌+ℤ◌}
use Rattle.std.proofs.Common.{arith}
use Rattle.std.proofs.lemmas.Int.{ints, clamps}
use Rattle.std.proofs.lemmas.Bool.{cond_both}
use Rattle.std.proofs.lemmas.Bool.Decides.{nat_tests}
use Rattle.std.proofs.Math.Facts.{and_yes}
use Rattle.model.specs.Model.{Model, Offers, offers, Money, Inside, Lawful}
use Rattle.model.specs.Passed.{is_true, taken, nothing}
use Rattle.sheets.specs.declared.note.Note.{Note}
use Rattle.sheets.specs.Notes.{barred, surcharged, held, inside, noted}

pub inside_is : (o : Offers) (n s r j : ℕ) → T (inside o n s r j) → Inside o n s r × (j < o.conditions)
inside_is o n s r j h =
    let all = is_true (inside o n s r j) h in
    (record { first_visit = grind (arith, nat_tests); last_visit = grind (arith, nat_tests); some_condition = grind (arith, nat_tests); some_remedy = grind (arith, nat_tests) }, grind (arith, nat_tests))

held_money : (z : ℤ) → Money (held z)
held_money z = record { low = omega (arith, ints, clamps); high = omega (arith, ints, clamps) }

again : (m : Model) (ns : List Note) (n s r : ℕ) → Inside (offers m) n s r → Inside (offers (noted m ns)) n s r
again m ns n s r i = record { first_visit = i.first_visit; last_visit = i.last_visit; some_condition = i.some_condition; some_remedy = i.some_remedy }

pub noted_lawful : (m : Model) (ns : List Note) → Lawful m → Lawful (noted m ns)
noted_lawful m ns lawful = record {
  some_condition = lawful.some_condition;
  few_conditions = lawful.few_conditions;
  some_remedy = lawful.some_remedy;
  few_remedies = lawful.few_remedies;
  some_parts = lawful.some_parts;
  few_parts = lawful.few_parts;
  share_fits = lawful.share_fits;
  amount_fits = λ n s r j. cond_both (inside (offers m) n s r j) _ _ Money (λ _. held_money (m.amount n s r j +ℤ surcharged ns n r)) (λ _. nothing);
  worth_fits = lawful.worth_fits;
  offered_inside = λ n s r h. again m ns n s r (lawful.offered_inside n s r (and_yes (m.offered n s r) (not (barred ns n s r)) h).0);
  share_inside = λ n s r j h. let x = lawful.share_inside n s r j h in (again m ns n s r x.0, x.1);
  amount_inside = λ n s r j h. let x = inside_is (offers m) n s r j (taken (inside (offers m) n s r j) _ (pos 0) h) in (again m ns n s r x.0, x.1);
  worth_inside = lawful.worth_inside;
}
