use Rattle.std.proofs.Common.{◌≡◌, ◌<◌, length, get_or, rules}
use Rattle.fields.proofs.CodeNumerals.{based}
use Rattle.fields.proofs.numbers.decimal.Goals as goal
use Rattle.fields.proofs.numbers.decimal.Goals.{in_default-via-then-part-lt2, in_default-via-else-part-lt2+in_default-1}

pub returns-in_default : goal.returns-in_default
returns-in_default c =
    let bs = c.args.part.now in
    let some : 0 < length bs = search rules in
    let lead : get_or bs 0 0 ≡ 48 → length bs ≡ 1 = λ e. elim c.in_default.branch [ in_default-via-then-part-lt2 w ↦ search rules | in_default-via-else-part-lt2+in_default-1 w ↦ search rules ] in
    based bs c.digits.result some lead c.digits.ensures
