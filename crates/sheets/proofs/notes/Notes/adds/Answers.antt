use Rattle.std.proofs.Common.{◌<◌, List, ap, ◌∙◌, rules, pos, arith, ℤ, ◌+ℤ◌, nat_abs, fold, w64, SFits}
use Rattle.std.proofs.lemmas.Int.{ints}
use Rattle.std.proofs.lemmas.Iterator.{YieldsList-from_slice, YieldsList-from_map}
use Rattle.std.proofs.lemmas.Iterator.Consumers.{YieldsList-at}
use Rattle.sheets.specs.declared.note.Note.{Note}
use Rattle.sheets.specs.Notes.{charge, surcharged}
use Rattle.sheets.proofs.Steps.{in_32, each_run, sum_small, sum_fits, drained_sum, fold_charges}
use Rattle.sheets.proofs.notes.Notes.adds.Goals as goal

pub sum-requires-clause-fits : goal.sum-requires-clause-fits
sum-requires-clause-fits c =
    each_run _ (λ (xs : List ℤ). SFits w64 (fold ◌+ℤ◌ (pos 0) xs)) (λ n. sum_fits (λ x. charge x c.args.visit c.args.remedy) _ n (omega arith))
    (YieldsList-from_map _ (λ x. in_32 (charge x c.args.visit c.args.remedy)) (YieldsList-at c.map.ensures.source (YieldsList-from_slice _ c.iter.ensures.rest)) c.map.ensures.closure (λ x r q k. search rules))

pub returns : goal.returns
returns c =
    let road = YieldsList-at c.map.ensures.source (YieldsList-from_slice _ c.iter.ensures.rest) in
    let h = λ (x : Note). charge x c.args.visit c.args.remedy in
    let sum = drained_sum c.map.result c.sum.result c.sum.ensures.ran (YieldsList-from_map _ h road c.map.ensures.closure (λ x r q k. search rules)) in
    let held = drained_sum c.map.result c.sum.result c.sum.ensures.ran (YieldsList-from_map _ (λ x. in_32 (h x)) road c.map.ensures.closure (λ x r q k. search rules)) in
    let small = ap nat_abs held in
    let most = sum_small h c.deref.result.now (omega arith) in
    let size : nat_abs c.sum.result < 100000000000 = omega arith in
    let all = sum ∙ fold_charges c.deref.result.now c.args.visit c.args.remedy (pos 0) ∙ ap (λ (l : List Note). pos 0 +ℤ surcharged l c.args.visit c.args.remedy) (c.deref.ensures.value ∙ c.self.view_is) in
    record { value = omega (arith, ints); low = omega (arith, ints); high = omega (arith, ints) }
