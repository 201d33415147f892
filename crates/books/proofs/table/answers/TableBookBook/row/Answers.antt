use Rattle.std.proofs.Common.{sym, ap, ◌∙◌, length, arith}
use Rattle.books.proofs.TableRows.{bare, outcome_more, outcome_is, none_more}
use Rattle.books.proofs.table.answers.TableBookBook.row.Goals.{then-share-gt0, else-share-gt0}
use Rattle.books.proofs.table.answers.TableBookBook.row.Goals as goal

pub returns-then-not-has : goal.returns-then-not-has
returns-then-not-has c = c.clear.ensures ∙ bare c.args.self.now c.args.visit c.args.condition c.args.remedy (sym c.if-not-has.ensures)

pub loop-next-preserved : goal.loop-next-preserved
loop-next-preserved c =
    let book = c.args.self.now in
    let some = sym c.if-not-has.ensures in
    let first = c.first_of-first.result in
    let next = c.loop-next.next in
    let starts = c.first_of-first.ensures.value in
    let (few, so) = c.loop-next.invariant in
    elim c.if-share-gt0.branch [
      | then-share-gt0 w ↦ (
        omega (arith, w.push.ensures.len, ap (λ r. length r.items) w.row-is),
        ap (λ r. r.items) w.row-is ∙ w.push.ensures.items ∙ outcome_more book c.args.visit c.args.condition c.args.remedy some first next c.loop-next-test.true starts c.loop-next.row.items _ so (outcome_is book c.args.visit c.args.condition c.args.remedy some first next c.loop-next-test.true starts _ w.outcome_at.ensures.next w.outcome_at.ensures.share w.outcome_at.ensures.amount) (omega (arith, w.if-share-gt0.true)),
      )
      | else-share-gt0 w ↦ (
        omega (arith, ap (λ r. length r.items) w.row-is),
        ap (λ r. r.items) w.row-is ∙ none_more book c.args.visit c.args.condition c.args.remedy some first next c.loop-next-test.true starts c.loop-next.row.items so (omega (arith, w.if-share-gt0.false)),
      )
    ]
