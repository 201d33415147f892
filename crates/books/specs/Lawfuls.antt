-- Books of lists and of tables keep what is asked of every book.
use Rattle.std.specs.Prelude.{◌≡◌, ℕ, suc, ◌*◌, ◌<◌, ◌≤◌, true, ◌&&◌, List, [], ◌∷◌, length, ℤ, pos, nat_le, nat_lt}
use Rattle.std.proofs.Common.{arith}
use Rattle.std.proofs.Math.Arith.{digits_lt}
use Rattle.std.proofs.lemmas.Bool.{and_parts, cond_both, leb-true, ltb-true}
use Rattle.std.proofs.lemmas.Int.{ints}
use Rattle.model.specs.Model.{Offers, offers, Money, Inside, Lawful}
use Rattle.model.specs.Passed.{is_true, taken, some_of, nothing}
use Rattle.books.specs.declared.record.Record.{Record}
use Rattle.books.specs.declared.list.ListBook.{ListBook}
use Rattle.books.specs.declared.table.TableBook.{TableBook}
use Rattle.books.specs.Alike.{SizesFit, inside, some_above, alike}
use Rattle.books.specs.Entries.{SmallMoney, AllSmall, SharesFit, AllValued}
use Rattle.books.specs.Listed.{about, listed, list_model}
use Rattle.books.specs.Means.{list_means, table_means}
use Rattle.books.specs.Tables.{spot, table_model}

small_money : (z : ℤ) → SmallMoney z → Money z
small_money z h = record { low = omega (arith, ints); high = omega (arith, ints) }

pub inside_so : (o : Offers) (n s x : ℕ) → inside o.conditions o.remedies n s x ≡ true → Inside o n s x
inside_so o n s x h =
    let d = and_parts _ (nat_lt x o.remedies) h in
    let e = and_parts _ (nat_lt s o.conditions) d.0 in
    let f = and_parts (nat_le 1 n) (nat_le n 48) e.0 in
    record { first_visit = leb-true 1 n f.0; last_visit = leb-true n 48 f.1; some_condition = ltb-true s o.conditions e.1; some_remedy = ltb-true x o.remedies d.1 }

pub outcome_inside : (o : Offers) (n s x j : ℕ) → (inside o.conditions o.remedies n s x && nat_lt j o.conditions) ≡ true → Inside o n s x × (j < o.conditions)
outcome_inside o n s x j h = let d = and_parts _ (nat_lt j o.conditions) h in (inside_so o n s x d.0, ltb-true j o.conditions d.1)

module _ (c r parts : ℕ) (share : ℕ → ℕ → ℕ → ℕ) (amount : ℕ → ℕ → ℕ → ℤ) (worth : ℕ → ℤ) (sizes : SizesFit c r parts)
    (shares : (s x j : ℕ) → s < c → x < r → j < c → share s x j ≤ parts) (amounts : (s x j : ℕ) → s < c → x < r → j < c → SmallMoney (amount s x j)) (worths : (s : ℕ) → s < c → SmallMoney (worth s)) where
  abbrev rows : Offers
  rows = offers (alike c r parts share amount worth)

  alike_lawful : Lawful (alike c r parts share amount worth)
  alike_lawful = record {
    some_condition = sizes.some_condition;
    few_conditions = sizes.few_conditions;
    some_remedy = sizes.some_remedy;
    few_remedies = sizes.few_remedies;
    some_parts = sizes.some_parts;
    few_parts = sizes.few_parts;
    share_fits = λ n s x j. cond_both (inside c r n s x && nat_lt j c) (share s x j) 0 (λ z. z ≤ parts) (λ h. let i = outcome_inside rows n s x j h in shares s x j i.0.some_condition i.0.some_remedy i.1) (λ _. omega arith);
    amount_fits = λ n s x j. cond_both (inside c r n s x && nat_lt j c) (amount s x j) (pos 0) Money (λ h. let i = outcome_inside rows n s x j h in small_money _ (amounts s x j i.0.some_condition i.0.some_remedy i.1)) (λ _. nothing);
    worth_fits = λ s. cond_both (nat_lt s c) (worth s) (pos 0) Money (λ h. small_money _ (worths s (ltb-true s c h))) (λ _. nothing);
    offered_inside = λ n s x h. inside_so rows n s x (and_parts _ (some_above (share s x) c) (is_true _ h)).0;
    share_inside = λ n s x j h. outcome_inside rows n s x j (is_true _ (some_of _ (share s x j) h));
    amount_inside = λ n s x j h. outcome_inside rows n s x j (is_true _ (taken _ (amount s x j) (pos 0) h));
    worth_inside = λ s h. ltb-true s c (is_true _ (taken (nat_lt s c) (worth s) (pos 0) h));
  }

pub table_lawful : (c r parts : ℕ) (shares : List ℕ) (amounts worths : List ℤ) → SizesFit c r parts → length shares ≡ c * r * c → length amounts ≡ c * r * c → length worths ≡ c → SharesFit parts shares → AllSmall amounts → AllSmall worths → Lawful (table_model c r parts shares amounts worths)
table_lawful c r parts shares amounts worths sizes long_s long_a long_w fit small worth =
    alike_lawful c r parts _ _ _ sizes
    (λ s x j a b d. let l = digits_lt (digits_lt a b) d in fit (spot c r s x j) (omega arith))
    (λ s x j a b d. let l = digits_lt (digits_lt a b) d in small (spot c r s x j) (omega arith))
    (λ s a. worth s (omega arith))

-- and so a table book is lawful
pub table_book_lawful : (b : TableBook) → Lawful (table_means b)
table_book_lawful b = table_lawful b.sizes.conditions b.sizes.remedies b.sizes.parts b.shares.now b.amounts.now b.worths.now b.sizes.fit b.shares_long b.amounts_long b.worths_long b.shares_fit b.amounts_small b.worths_small

listed_fits : (parts : ℕ) (es : List Record) (s x j : ℕ) → AllValued parts es → ((listed es s x j).share ≤ parts) × SmallMoney (listed es s x j).amount
listed_fits parts [] s x j each = (omega arith, omega arith)
listed_fits parts (e ∷ es) s x j each =
    let rest = listed_fits parts es s x j (λ i l. each (suc i) (omega arith)) in
    let here = each 0 (omega arith) in
    cond_both (about e s x j) e (listed es s x j) (λ f. (f.share ≤ parts) × SmallMoney f.amount) (λ _. (here.1, here.2)) (λ _. rest)

pub list_lawful : (c r parts : ℕ) (es : List Record) (worths : List ℤ) → SizesFit c r parts → length worths ≡ c → AllValued parts es → AllSmall worths → Lawful (list_model c r parts es worths)
list_lawful c r parts es worths sizes long fit small =
    alike_lawful c r parts _ _ _ sizes
    (λ s x j a b d. (listed_fits parts es s x j fit).0)
    (λ s x j a b d. (listed_fits parts es s x j fit).1)
    (λ s a. small s (omega arith))

-- and so a list book is lawful
pub list_book_lawful : (b : ListBook) → Lawful (list_means b)
list_book_lawful b = list_lawful b.sizes.conditions b.sizes.remedies b.sizes.parts b.listing.records.now b.worths.now b.sizes.fit b.worths_long b.records_valued b.worths_small
