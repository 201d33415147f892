use Rattle.std.proofs.Common.{◌≡◌, ℕ, ◌+◌, ◌<◌, ◌≤◌, Bool, true, false, eqb, ltb, List, length, get_or, Option, Some, None, MatchOption, refl, sym, ap, ◌∙◌, subst, arith, rules}
use borrow.Author.Tests.{tests}
use denote.Ref.{Bor}
use Rattle.std.specs.List.{HoldsAt}
use Rattle.std.specs.Bool.{then_some}
use Rattle.std.proofs.lemmas.Bool.Decides.{nat_tests}
use Rattle.std.proofs.lemmas.List.Sorted.{IsPartitionPoint-from_clause}
use Rattle.books.specs.declared.list.ListBook.{ListBook}
use Rattle.books.specs.declared.record.Record.{Record}
use Rattle.books.specs.Entries.{no_record, StandBefore, IsRow, rank}
use Rattle.books.specs.Listed.{listed}
use Rattle.books.proofs.Lookups.{listed_hit, listed_miss}
use Rattle.books.proofs.Rows.{inside_row, of_row, nexts_first, stand_in_row}
use Rattle.books.proofs.list.ListBook.look_up.Goals as goal

module _ (book : ListBook) (s x j m : ℕ) (records : List Record) (row : IsRow book.listing.records.now s x records) (xl : x < 8) (jl : j < 32) (bound : m ≤ length records) (stand : StandBefore book.listing.records.now (rank s x j) (row.first + m)) where
  abbrev Found : Option (Bor Record) → Type 0
  Found r = MatchOption r (listed book.listing.records.now s x j ≡ no_record) (λ found. listed book.listing.records.now s x j ≡ found.now)

  -- the record there, if it is of the next condition
  tested : (e : Bor Record) (b : Bool) → m < length records → e.now ≡ get_or book.listing.records.now (row.first + m) no_record → b ≡ eqb e.now.next j → Found (then_some b e)
  tested e true l is so =
      let p = of_row book s x m records row xl l in
      let next : (get_or book.listing.records.now (row.first + m) no_record).next ≡ j = ap (λ (d : Record). d.next) (sym is) ∙ grind (arith, nat_tests) in
      listed_hit book.listing.records.now s x j (row.first + m) book.listing.rise (inside_row book s x m records row xl l) p.0 p.1 next ∙ sym is
  tested e false l is so =
      listed_miss book.listing.records.now (row.first + m) _ book.listing.rise stand s x j refl (λ k p. let next : e.now.next ≡ j = ap (λ (d : Record). d.next) is ∙ p.2 in grind (arith, nat_tests))

  -- what is kept of the record there, if there is one
  kept : (o r : Option (Bor Record)) (Told : Bor Record → Bool → Type 0) → MatchOption o (length records ≤ m) (λ e. (m < length records) × HoldsAt (λ y. e.now ≡ y) records m) → MatchOption o (r ≡ None) (λ e. (b : Bool) × Told e b × (r ≡ then_some b e)) → ((e : Bor Record) (b : Bool) → Told e b → b ≡ eqb e.now.next j) → Found r
  kept None r Told past none told =
      subst Found (sym none) (listed_miss book.listing.records.now (row.first + m) _ book.listing.rise stand s x j refl (λ l p. let u = row.to.above (row.first + m) (omega (arith, past)) l in absurd (omega arith)))
  kept (Some e) r Told there (b, called, is) told = subst Found (sym is) (tested e b there.0 (there.1 no_record ∙ row.same m there.0) (told e b called))

pub returns : goal.returns
returns c =
    let book = c.args.self.now in
    let records = c.row_of-row.result.now in
    let row = c.row_of-row.ensures in
    let few_remedies = book.sizes.fit.few_remedies in
    let few_conditions = book.sizes.fit.few_conditions in
    let xl : c.args.remedy < 8 = omega (arith, c.requires.1) in
    let jl : c.args.next < 32 = omega (arith, c.requires.2) in
    let bound = c.partition_point.ensures.bound in
    let point = IsPartitionPoint-from_clause (λ (e : Record). ltb e.next c.args.next) _ _ c.partition_point.ensures.partitioned (nexts_first book c.args.condition c.args.remedy c.args.next records row xl jl) (λ a r q k. search (rules, tests)) in
    let stand = stand_in_row book c.args.condition c.args.remedy c.args.next records row xl jl c.partition_point.result bound point in
    kept book c.args.condition c.args.remedy c.args.next c.partition_point.result records row xl jl bound stand c.get-found.result c.filter.result _ c.get-found.ensures.lookup.3 c.filter.ensures (λ e b q. search (rules, tests))
