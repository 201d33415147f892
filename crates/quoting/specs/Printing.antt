-- What is printed of a plan and of a fault.
use Rattle.std.specs.Prelude.{ℕ, zero, suc, ◌+◌, ◌/◌, ◌%◌, List, [], ◌∷◌, ◌++◌, ℤ, pos, Ok, Err, Result, slice_index, slice_index_or}
use Rattle.fields.specs.Numerals.{Bytes, numeral, signed}
use Rattle.fields.specs.Lines.{line}
use Rattle.quoting.specs.declared.fault.Fault.{Fault}
use Rattle.quoting.specs.declared.tables.Quote.{Quote}
use Rattle.quoting.specs.Faults.{fault_number, fault_places}

-- the N line (78): the number and the three places
abbrev pub refusal_line : ℕ → ℕ × ℕ × ℕ → Bytes
refusal_line n p = line 78 (numeral n ∷ numeral p.0 ∷ numeral p.1 ∷ numeral p.2 ∷ [])

-- a P line (80): visit, condition, remedy, value
abbrev pub plan_line : (visit condition remedy : ℕ) → ℤ → Bytes
plan_line n s r v = line 80 (numeral n ∷ numeral s ∷ numeral r ∷ signed v ∷ [])

-- the first n P lines, in order of visit, then condition
abbrev pub plan_lines : (conditions : ℕ) → List ℤ → List ℕ → (n : ℕ) → Bytes
plan_lines c vs rs zero = []
plan_lines c vs rs (suc i) = plan_lines c vs rs i ++ plan_line (i / c + 1) (i % c) (slice_index rs i) (slice_index_or vs i (pos 0))

-- the P lines of a plan and a T line (84) with their count
abbrev pub text_of_plan : (conditions : ℕ) → List ℤ → List ℕ → (n : ℕ) → Bytes
text_of_plan c vs rs n = plan_lines c vs rs n ++ line 84 (numeral n ∷ [])

abbrev pub printed : Result Quote Fault → List ℤ → List ℕ → Bytes
printed (Ok q) vs rs = text_of_plan q.conditions vs rs q.entries
printed (Err f) vs rs = refusal_line (fault_number f) (fault_places f)
