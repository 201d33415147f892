use Rattle.std.proofs.Common.{◌≡◌, ℕ, ◌+◌, ◌-◌, ◌*◌, ◌<◌, ◌≤◌, List, length, get_or, take, drop, sym, ◌∙◌, subst, ⊎_elim, arith, length-take, length-drop}
use Rattle.std.proofs.lemmas.Bool.{cases_lt}
use Rattle.std.proofs.lemmas.List.{get_or-take, get_or-drop}
use Rattle.books.specs.declared.record.Record.{Record}
use Rattle.books.specs.Entries.{no_record, StandBefore, RowsStart, IsRow, rank}
use Rattle.books.proofs.list.ListBook.row_of.Goals as goal

-- where one row starts and where the next one does
module _ (es : List Record) (starts : List ℕ) (rows : RowsStart es starts) (s x : ℕ) (sl : s < 32) (xl : x < 8) where
  abbrev at : ℕ → ℕ
  at k = get_or starts k 0

  from : StandBefore es (rank s x 0) (at (s * 8 + x))
  from = subst (λ w. StandBefore es w (at (s * 8 + x))) (omega arith) (rows (s * 8 + x) (omega arith))

  past : StandBefore es (rank s x 32) (at (s * 8 + x + 1))
  past = subst (λ w. StandBefore es w (at (s * 8 + x + 1))) (omega arith) (rows (s * 8 + x + 1) (omega arith))

  in_order : at (s * 8 + x) ≤ at (s * 8 + x + 1)
  in_order =
      ⊎_elim
      (λ (b : at (s * 8 + x + 1) < at (s * 8 + x)). let low = from.below (at (s * 8 + x + 1)) b in let within = from.within in let high = past.above (at (s * 8 + x + 1)) (omega arith) (omega arith) in absurd (omega arith))
      (λ b. b)
      (cases_lt (at (s * 8 + x + 1)) (at (s * 8 + x)))

  abbrev part : List Record
  part = take (at (s * 8 + x + 1) - at (s * 8 + x)) (drop (at (s * 8 + x)) es)

  long : at (s * 8 + x) + length part ≡ at (s * 8 + x + 1)
  long = let within = past.within in let order = in_order in omega (arith, length-take {A = Record}, length-drop {A = Record})

  is_row : IsRow es s x part
  is_row = record {
    first = at (s * 8 + x);
    from = from;
    to = subst (StandBefore es (rank s x 32)) (sym long) past;
    same = λ i l. let all = long in get_or-take (at (s * 8 + x + 1) - at (s * 8 + x)) (drop (at (s * 8 + x)) es) i no_record (omega arith) ∙ get_or-drop (at (s * 8 + x)) es i no_record;
  }

pub slice_bounds-result-count : goal.slice_bounds-result-count
slice_bounds-result-count c =
    let book = c.args.self.now in
    let few = book.sizes.fit.few_conditions in
    let few_remedies = book.sizes.fit.few_remedies in
    let order = in_order book.listing.records.now book.starts book.rows_start c.args.condition c.args.remedy (omega arith) (omega arith) in
    omega arith

pub slice_bounds-result-start : goal.slice_bounds-result-start
slice_bounds-result-start c =
    let book = c.args.self.now in
    let few = book.sizes.fit.few_conditions in
    let few_remedies = book.sizes.fit.few_remedies in
    let within = (past book.listing.records.now book.starts book.rows_start c.args.condition c.args.remedy (omega arith) (omega arith)).within in
    let order = in_order book.listing.records.now book.starts book.rows_start c.args.condition c.args.remedy (omega arith) (omega arith) in
    omega arith

pub returns : goal.returns
returns c =
    let book = c.args.self.now in
    let few = book.sizes.fit.few_conditions in
    let few_remedies = book.sizes.fit.few_remedies in
    is_row book.listing.records.now book.starts book.rows_start c.args.condition c.args.remedy (omega arith) (omega arith)
