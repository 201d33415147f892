use Rattle.std.proofs.Common.{sym, ◌∙◌}
use Rattle.sheets.proofs.Blank.{blank_sheet_is_the_book, blank_is_the_book}
use Rattle.sheets.proofs.sheet.Sheet.is_blank.Goals as goal

pub returns-clause-model : goal.returns-clause-model
returns-clause-model g c = λ e.
    let book = c.args.self.now.book in
    blank_is_the_book (g.B.Book.model book) c.args.self.now.notes (g.B.Book.lawful book) (sym c.is_empty.ensures ∙ e)

pub returns-clause-law : goal.returns-clause-law
returns-clause-law g c = blank_sheet_is_the_book
