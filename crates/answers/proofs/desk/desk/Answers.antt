use Rattle.std.proofs.Common.{◌≡◌, length, arith}
use Rattle.std.proofs.lemmas.Result.{IfOk-weaker}
use Rattle.script.specs.Parts.{script_from}
use Rattle.answers.proofs.Telling.{answered}
use Rattle.answers.proofs.desk.desk.Goals as goal

pub returns : goal.returns
returns c =
    let records : length c.as_mut_slice.result.now ≡ 2048 = omega (arith, c.as_mut_slice.ensures.len, c.in_ok-records.ensures.len) in
    let worths : length c.as_mut_slice-2.result.now ≡ 32 = omega (arith, c.as_mut_slice-2.ensures.len, c.in_ok-worths.ensures.len) in
    IfOk-weaker c.told.result _ _ (λ s e. answered _ _ c.of.result.book.now (script_from c.of.result.first c.of.result.script.now) c.if-input-gt-LONGEST.false records worths c.of.ensures.book c.of.ensures.script e) c.told.ensures
