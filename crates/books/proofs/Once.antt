-- Only one answer to tables or to a list is right.
use Rattle.std.proofs.Common.{◌≡◌, ℕ, ◌⊎◌, Ok, Err, Result, refl, ⊎_elim, arith}
use Rattle.books.specs.declared.refusal.MakingRefusal.{MakingRefusal}
use Rattle.books.specs.declared.refusal.MakingRefusal.TheVariants.{Size, Entry}
use Rattle.books.specs.declared.refusal.Table.{Table}
use Rattle.books.specs.declared.refusal.Table.TheVariants.{Outcomes, Amounts, Worths}
use Rattle.books.specs.Refusals.{table_number}
use Rattle.books.specs.Making.{Earlier, Checked, TablesAnsweredOnce, ListsAnsweredOnce}

number_of_one : (t t' : Table) → table_number t ≡ table_number t' → t ≡ t'
number_of_one Outcomes Outcomes e = refl
number_of_one Outcomes Amounts e = absurd (omega arith)
number_of_one Outcomes Worths e = absurd (omega arith)
number_of_one Amounts Outcomes e = absurd (omega arith)
number_of_one Amounts Amounts e = refl
number_of_one Amounts Worths e = absurd (omega arith)
number_of_one Worths Outcomes e = absurd (omega arith)
number_of_one Worths Amounts e = absurd (omega arith)
number_of_one Worths Worths e = refl

in_order : (t i t' i' : ℕ) → Earlier t i t' i' ⊎ (Earlier t' i' t i ⊎ ((t ≡ t') × (i ≡ i')))
in_order t i t' i' = grind arith

once : (S : Type 0) (H F : ℕ → ℕ → Type 0) (a b : Result (Unit {0}) MakingRefusal) → Checked S H F a → Checked S H F b → a ≡ b
once S H F (Ok u) (Ok v) p q = refl
once S H F (Ok u) (Err Size) p q = absurd (q p.0)
once S H F (Ok u) (Err (Entry t i)) p q = absurd (q.2 (p.1 (table_number t) i q.1))
once S H F (Err Size) (Ok v) p q = absurd (p q.0)
once S H F (Err Size) (Err Size) p q = refl
once S H F (Err Size) (Err (Entry t i)) p q = absurd (p q.0)
once S H F (Err (Entry t i)) (Ok v) p q = absurd (p.2 (q.1 (table_number t) i p.1))
once S H F (Err (Entry t i)) (Err Size) p q = absurd (q p.0)
once S H F (Err (Entry t i)) (Err (Entry t' i')) p q =
    ⊎_elim
    (λ e. absurd (p.2 (q.3 (table_number t) i p.1 e)))
    (⊎_elim (λ e. absurd (q.2 (p.3 (table_number t') i' q.1 e))) (λ e. let d = number_of_one t t' e.0 in let f = e.1 in cc))
    (in_order (table_number t) i (table_number t') i')

pub tables_answered_once : TablesAnsweredOnce
tables_answered_once c r parts shares amounts worths = once _ _ _

pub lists_answered_once : ListsAnsweredOnce
lists_answered_once c r parts es worths = once _ _ _
