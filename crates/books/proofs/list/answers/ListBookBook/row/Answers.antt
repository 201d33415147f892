use Rattle.std.proofs.Common.{◌≡◌, ℕ, ◌+◌, ◌<◌, List, length, get_or, sym, ap, ◌∙◌, ltb, subst, arith}
use Rattle.std.proofs.lemmas.Bool.{and_parts, ltb-true}
use Rattle.model.specs.declared.row.Outcome.{Outcome}
use Rattle.books.specs.declared.list.ListBook.{ListBook}
use Rattle.books.specs.declared.record.Record.{Record}
use Rattle.books.specs.Entries.{no_record, outcome_of, StandBefore, IsRow, rank}
use Rattle.books.proofs.Rows.{outside, finished, later, written, stand_more, inside_row, of_row}
use Rattle.books.proofs.list.answers.ListBookBook.row.Goals as goal

-- the record after the row is not
after_row : (book : ListBook) (s x : ℕ) (records : List Record) (row : IsRow book.listing.records.now s x records) → row.first + length records < length book.listing.records.now → ((get_or book.listing.records.now (row.first + length records) no_record).condition ≡ s) × ((get_or book.listing.records.now (row.first + length records) no_record).remedy ≡ x) → ⊥
after_row book s x records row l p =
    let high = row.to.above (row.first + length records) (omega arith) l in
    let q = book.listing.placed (row.first + length records) l in
    absurd (omega arith)

pub returns-then-not-has : goal.returns-then-not-has
returns-then-not-has c = c.clear.ensures ∙ outside c.args.self.now c.args.visit c.args.condition c.args.remedy (sym c.if-not-has.ensures)

pub loop-found-init : goal.loop-found-init
loop-found-init c =
    let row = c.row_of-found-items.ensures in (
      row,
      0,
      omega arith,
      omega (arith, ap (λ (os : List Outcome). length os) c.clear.ensures),
      c.clear.ensures,
      subst (StandBefore c.args.self.now.listing.records.now (rank c.args.condition c.args.remedy 0)) (omega arith) row.from,
    )

pub loop-found-preserved : goal.loop-found-preserved
loop-found-preserved c =
    let book = c.args.self.now in
    let (row, j, few, count, so, stand) = c.loop-found.invariant in
    let at = row.first + c.loop-found.found-index in
    let next = (get_or book.listing.records.now at no_record).next in
    let some = sym c.if-not-has.ensures in
    let few_remedies = book.sizes.fit.few_remedies in
    let less = ltb-true c.args.remedy book.sizes.remedies (and_parts _ (ltb c.args.remedy book.sizes.remedies) some).1 in
    let l = inside_row book c.args.condition c.args.remedy c.loop-found.found-index c.row_of-found-items.result.now row (omega arith) c.loop-found-test.true in
    let (a, b) = of_row book c.args.condition c.args.remedy c.loop-found.found-index c.row_of-found-items.result.now row (omega arith) c.loop-found-test.true in
    let same = row.same c.loop-found.found-index c.loop-found-test.true in
    let p = book.records_placed at l in
    let later = later book c.args.visit c.args.condition c.args.remedy some at j stand l a b in (
      row,
      next + 1,
      omega arith,
      omega (arith, later, c.push.ensures.len),
      c.push.ensures.items ∙ written book c.args.visit c.args.condition c.args.remedy some at j stand l a b c.loop-found.row.items _ (c.outcome.ensures ∙ ap outcome_of same) so,
      stand_more book c.args.visit c.args.condition c.args.remedy some at j stand l a b _ (omega arith),
    )

pub returns : goal.returns
returns c =
    let book = c.args.self.now in
    let (row, j, few, count, so, stand) = c.loop-found.invariant in
    let here : c.loop-found.found-index ≡ length c.row_of-found-items.result.now = omega arith in
    so ∙ finished book c.args.visit c.args.condition c.args.remedy (sym c.if-not-has.ensures) (row.first + length c.row_of-found-items.result.now) j (subst (λ i. StandBefore book.listing.records.now (rank c.args.condition c.args.remedy j) (row.first + i)) here stand) few (after_row book c.args.condition c.args.remedy c.row_of-found-items.result.now row)
