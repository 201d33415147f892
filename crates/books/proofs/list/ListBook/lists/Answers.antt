use Rattle.std.proofs.Common.{◌≡◌, ℕ, zero, suc, ◌<◌, Bool, true, false, eqb, List, length, get_or, sym, refl, ap, ◌∙◌, subst, arith}
use mathlib.Core.Bool.{not}
use Rattle.std.proofs.lemmas.Bool.{ne_eqb}
use Rattle.books.specs.declared.list.ListBook.{ListBook}
use Rattle.books.specs.declared.record.Record.{Record}
use Rattle.books.specs.Alike.{some_above}
use Rattle.books.specs.Entries.{no_record, IsRow}
use Rattle.books.specs.Listed.{listed}
use Rattle.books.proofs.Lookups.{listed_hit, row_miss, above_at, above_none}
use Rattle.books.proofs.list.ListBook.lists.Goals as goal

module _ (b : ListBook) (s x : ℕ) (xl : x < 8) (row : List Record) (is : IsRow b.listing.records.now s x row) where
  abbrev listed_some : Bool
  listed_some = some_above (λ j. (listed b.listing.records.now s x j).share) b.sizes.conditions

  -- none of the row
  none : length row ≡ 0 → listed_some ≡ false
  none l =
      let es = b.listing.records.now in
      above_none _ b.sizes.conditions (λ j m. ap (λ (f : Record). f.share) (row_miss es is.first _ b.listing.rise is.from s x j refl b.listing.placed (λ k p. let t = is.to.above is.first (omega arith) k in let q = b.listing.placed is.first k in omega arith)))

  -- its first record
  some : 0 < length row → listed_some ≡ true
  some l =
      let es = b.listing.records.now in
      let within = is.to.within in
      let inside : is.first < length es = omega arith in
      let at = get_or es is.first no_record in
      let low = is.from.above is.first (omega arith) inside in
      let high = is.to.below is.first (omega arith) in
      let q = b.listing.placed is.first inside in
      let e : at.condition ≡ s = omega arith in
      let f : at.remedy ≡ x = omega arith in
      let hit : listed es s x at.next ≡ at = listed_hit es s x at.next is.first b.listing.rise inside e f refl in
      let P : Record → Type 0 = λ g. 0 < g.share in
      above_at _ b.sizes.conditions at.next (b.records_placed is.first inside).2 (subst P (sym hit) (b.records_valued is.first inside).0)

  told : (n : ℕ) (e : Bool) → length row ≡ n → e ≡ eqb n 0 → not e ≡ listed_some
  told zero e l h = ap not h ∙ sym (none l)
  told (suc n) e l h = ap not (h ∙ ne_eqb (suc n) 0 (λ q. absurd (omega (arith, q)))) ∙ sym (some (omega arith))

pub returns : goal.returns
returns c =
    let book = c.args.self.now in
    let few_remedies = book.sizes.fit.few_remedies in
    told book c.args.condition c.args.remedy (omega arith) c.row_of.result.now c.row_of.ensures (length c.row_of.result.now) c.is_empty.result refl c.is_empty.ensures
