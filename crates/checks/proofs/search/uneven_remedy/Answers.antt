use Rattle.std.proofs.Common.{◌≡◌, rules, tests}
use Rattle.model.specs.Visits.{Uneven}
use Rattle.checks.specs.Places.{EvenUnder}
use Rattle.checks.proofs.Places.{found_below, lowest_uneven}
use Rattle.checks.proofs.Kept.{first_from_kept_find}
use Rattle.checks.proofs.search.uneven_remedy.Goals as goal

pub returns : goal.returns
returns g c =
    let b = c.args.book.now in
    let m = g.B.Book.model b in
    let n = c.args.visit in
    let s = c.args.condition in
    lowest_uneven m n s c.find.result (g.B.Book.lawful b)
    (found_below c.find.result c.remedies.result m.remedies (Uneven m n s) (EvenUnder m n s) c.remedies.ensures
    (first_from_kept_find _ (λ f. (f.0.now ≡ b) × (f.1.now ≡ n) × (f.2.now ≡ s)) (Uneven m n s) (EvenUnder m n s) (λ f x q i k. search (rules, tests)) (λ f x q i k. search (rules, tests)) c.remedies.result _ _ c.find.result (search rules) c.find.ensures.ran))
