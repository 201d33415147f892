-- The lines that are printed.
use Rattle.std.specs.Prelude.{ℕ, ◌+◌, ◌/◌, ◌%◌, List, [], ◌∷◌, ◌++◌, take, ℤ}
use Rattle.std.specs.List.{enumerate_from, zip}
use Rattle.fields.specs.Numerals.{Bytes, numeral, signed}
use Rattle.fields.specs.Lines.{line}
use Rattle.quoting.specs.Printing.{plan_line}
use Rattle.answers.specs.Words.{word}

-- the N line (78) of line k: a refusal's number, its word and its three places
abbrev pub refusal_line : (k n : ℕ) → ℕ × ℕ × ℕ → Bytes
refusal_line k n p = line 78 (numeral k ∷ numeral n ∷ word n ∷ numeral p.0 ∷ numeral p.1 ∷ numeral p.2 ∷ [])

-- the A line (65) of line k, with the answer of its call
abbrev pub answer_line : (k : ℕ) → ℤ → Bytes
answer_line k z = line 65 (numeral k ∷ signed z ∷ [])

-- the S line (83) of line k, which got no answer
abbrev pub silent_line : (k : ℕ) → Bytes
silent_line k = line 83 (numeral k ∷ [])

-- a P line (80) for each of some entries, which stand with their places in a table: visit, condition, remedy, value
abbrev pub entry_lines : (conditions : ℕ) → List (ℕ × (ℤ × ℕ)) → Bytes
entry_lines c [] = []
entry_lines c (e ∷ es) = plan_line (e.0 / c + 1) (e.0 % c) e.1.1 e.1.0 ++ entry_lines c es

-- of the first n entries of a table of values and one of remedies, in order of visit, then condition
abbrev pub table_lines : (conditions : ℕ) → List ℤ → List ℕ → (n : ℕ) → Bytes
table_lines c vs rs n = entry_lines c (enumerate_from 0 (take n (zip vs rs)))
