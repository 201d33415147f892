use Rattle.std.proofs.Common.{◌≡◌, ◌-◌, length, get_or, ℤ, pos, w64, SFits, to_z, of_z, sym, ap, ◌∙◌, arith, rules}
use Rattle.std.proofs.lemmas.Int.{to_z-of_z}
use Rattle.bookfile.specs.Writing.{book_of, worth_line}
use Rattle.bookfile.proofs.Writing.{worth_line_at}
use Rattle.bookfile.proofs.write.line_text.Goals as goal

-- the line of a worth
pub returns-then-index-records-2 : goal.returns-then-index-records-2
returns-then-index-records-2 c =
    let s = c.args.index - length c.records-records.result.now - 1 in
    let z : ℤ = get_or c.worths-worths.result.now s (pos 0) in
    let fits : SFits w64 z = search rules in
    let records = ap length c.records-records.ensures in
    let worths = ap length c.worths-worths.ensures in
    let written : c.worth_text.result.bytes ≡ worth_line (s, to_z w64 (of_z w64 z)) = c.worth_text.ensures in
    written
    ∙ ap (λ y. worth_line (s, y)) (to_z-of_z w64 z fits)
    ∙ ap (λ zs. worth_line (s, get_or zs s (pos 0))) c.worths-worths.ensures
    ∙ sym (worth_line_at (book_of c.args.book.now) c.args.index s (omega arith) (omega arith))
