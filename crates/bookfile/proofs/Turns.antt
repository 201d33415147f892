-- Lines in turn, as they are tested.
use Rattle.std.proofs.Common.{◌≡◌, ℕ, true, eqb, List, [], length, get_or, ℤ, sym, refl, ap, ◌∙◌, subst, arith}
use Rattle.std.proofs.lemmas.Bool.{eqb-true, eq-eqb}
use Rattle.books.specs.declared.record.Record.{Record}
use Rattle.fields.specs.Numerals.{Bytes, numeral, signed, value, signed_value}
use Rattle.fields.proofs.Digits.{value_numeral, value_signed}
use Rattle.bookfile.specs.File.{WrittenBook, record_fields, worth_fields}
use Rattle.bookfile.specs.FileFaults.{InTurn}
use Rattle.bookfile.specs.Reading.{rises_after}
use Rattle.bookfile.proofs.Standing.{AboveLast, above_last, last_below}

numeral_once : (a b : ℕ) → numeral a ≡ numeral b → a ≡ b
numeral_once a b e = sym (value_numeral a) ∙ (ap value e ∙ value_numeral b)

abbrev made_of : ℕ → ℕ → ℕ → ℕ → ℤ → Record
made_of s x j p z = record { condition = s; remedy = x; next = j; share = p; amount = z }

-- a record is known from its fields
read_fields : List Bytes → Record
read_fields fs = record { condition = value (get_or fs 0 []); remedy = value (get_or fs 1 []); next = value (get_or fs 2 []); share = value (get_or fs 3 []); amount = signed_value (get_or fs 4 []) }

fields_back : (e : Record) → read_fields (record_fields e) ≡ e
unfolding read_fields
fields_back e =
    let q0 = value_numeral e.condition in let q1 = value_numeral e.remedy in let q2 = value_numeral e.next in let q3 = value_numeral e.share in let q4 = value_signed e.amount in
    ap (λ x. made_of x (value (numeral e.remedy)) (value (numeral e.next)) (value (numeral e.share)) (signed_value (signed e.amount))) q0 ∙ (ap (λ x. made_of e.condition x (value (numeral e.next)) (value (numeral e.share)) (signed_value (signed e.amount))) q1 ∙ (ap (λ x. made_of e.condition e.remedy x (value (numeral e.share)) (signed_value (signed e.amount))) q2 ∙ (ap (λ x. made_of e.condition e.remedy e.next x (signed_value (signed e.amount))) q3 ∙ ap (λ x. made_of e.condition e.remedy e.next e.share x) q4)))

record_once : (d e : Record) → record_fields d ≡ record_fields e → d ≡ e
record_once d e q = sym (fields_back d) ∙ (ap read_fields q ∙ fields_back e)

-- a line in turn, as it is tested
pub turn_record : (b : WrittenBook) (fs : List Bytes) (e : Record) → fs ≡ record_fields e → InTurn b 82 fs → rises_after b.records e ≡ true
turn_record b fs e q t =
    let d = t.0 refl in
    above_last b.records e (subst (AboveLast b.records) (record_once d.0 e (sym d.1 ∙ q)) d.2)

pub record_turn : (b : WrittenBook) (fs : List Bytes) (e : Record) → fs ≡ record_fields e → rises_after b.records e ≡ true → InTurn b 82 fs
record_turn b fs e q up = ((λ z. (e, q, last_below b.records e up)), (λ z. absurd (omega arith)))

pub turn_worth : (b : WrittenBook) (fs : List Bytes) (s : ℕ) (z : ℤ) → fs ≡ worth_fields s z → InTurn b 67 fs → eqb s (length b.worths) ≡ true
turn_worth b fs s z q t = eq-eqb s (length b.worths) (numeral_once s (length b.worths) (ap (λ x. get_or x 0 []) (sym q) ∙ t.1 refl))

pub worth_turn : (b : WrittenBook) (fs : List Bytes) (s : ℕ) (z : ℤ) → fs ≡ worth_fields s z → eqb s (length b.worths) ≡ true → InTurn b 67 fs
worth_turn b fs s z q e = ((λ y. absurd (omega arith)), (λ y. ap (λ x. get_or x 0 []) q ∙ ap numeral (eqb-true s (length b.worths) e)))
