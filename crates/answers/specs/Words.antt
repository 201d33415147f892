-- The words of refusals, by their numbers; 11, 17, 18 and 19 are not used.
use Rattle.std.specs.Prelude.{ℕ, cond, List, [], ◌∷◌, ◌==◌, codes}
use Rattle.fields.specs.Numerals.{Bytes}

abbrev pub words : List (ℕ × Bytes)
words =
    (1, codes "visits") ∷ (2, codes "short") ∷ (3, codes "unknown") ∷ (4, codes "span") ∷ (5, codes "dear") ∷ (6, codes "full")
    ∷ (7, codes "stuck") ∷ (8, codes "uneven") ∷ (9, codes "fine") ∷ (10, codes "rule") ∷ (12, codes "size") ∷ (13, codes "entry")
    ∷ (14, codes "over") ∷ (15, codes "impossible") ∷ (16, codes "early") ∷ (20, codes "letter") ∷ (21, codes "fields")
    ∷ (22, codes "number") ∷ (23, codes "range") ∷ (24, codes "order") ∷ (25, codes "space") ∷ (26, codes "end") ∷ []

-- the word that stands beside a number
abbrev pub beside : ℕ → List (ℕ × Bytes) → Bytes
beside n [] = []
beside n (p ∷ ps) = cond (n == p.0) p.1 (beside n ps)

unfoldable pub word : ℕ → Bytes
word n = beside n words
