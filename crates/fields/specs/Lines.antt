-- Lines of tab-separated fields.
use Rattle.std.specs.Prelude.{◌≡◌, ℕ, suc, ◌<◌, Bool, true, false, cond, ◌&&◌, List, [], ◌∷◌, ◌++◌, length, ◌==◌, slice_index, slice_index_or}
use Rattle.fields.specs.Numerals.{Bytes}

-- parts with a byte between any two
abbrev pub joined : ℕ → Bytes → List Bytes → Bytes
joined c f [] = f
joined c f (g ∷ gs) = f ++ (c ∷ joined c g gs)

-- a line: a letter and fields, parted by tabs (9), and a newline (10)
abbrev pub line : ℕ → List Bytes → Bytes
line l fs = joined 9 (l ∷ []) fs ++ (10 ∷ [])

-- the part before the first c, and the parts that follow it
abbrev pub split : ℕ → Bytes → Bytes × List Bytes
split c [] = ([], [])
split c (x ∷ xs) = let r = split c xs in cond (x == c) ([], r.0 ∷ r.1) (x ∷ r.0, r.1)

abbrev pub same : Bytes → Bytes → Bool
same [] [] = true
same [] (y ∷ ys) = false
same (x ∷ xs) [] = false
same (x ∷ xs) (y ∷ ys) = x == y && same xs ys

abbrev pub Without : ℕ → Bytes → Type 0
Without c bs = (i : ℕ) → i < length bs → ¬ (slice_index bs i ≡ c)

-- some bytes begin with an ended line of these fields, in which no tab or newline stands
pub record Starts (bs f : Bytes) (fs : List Bytes) : Type 0 where
  pub more : Bytes
  pub whole : bs ≡ joined 9 f fs ++ (10 ∷ more)
  pub no_tabs : (i : ℕ) → i < suc (length fs) → Without 9 (slice_index_or (f ∷ fs) i [])
  pub no_newlines : (i : ℕ) → i < suc (length fs) → Without 10 (slice_index_or (f ∷ fs) i [])
