-- Lines as they are printed.
use Rattle.std.proofs.Common.{◌≡◌, ℕ, ◌+◌, ◌^◌, ◌<◌, ◌≤◌, min, List, [], ◌∷◌, ◌++◌, length, get_or, take, Iter, ℤ, pos, w64, SFits, ap, ◌∙◌, append_assoc, arith}
use Rattle.std.proofs.lemmas.List.{length-take, length-take-le, get_or-take, get_or_default}
use Rattle.std.proofs.lemmas.List.FromFn.{length-enumerate_from, get_or-enumerate_from}
use Rattle.std.proofs.lemmas.Slice.Zip.{length-zip, get_or-zip}
use Rattle.std.proofs.Math.Facts.{Fits-nat_abs}
use Rattle.std.proofs.iter.Yields.{fronts}
use Rattle.std.proofs.lemmas.Iterator.{YieldsList, zips, YieldsList-from_slice, YieldsList-from_zip, YieldsList-from_take}
use Rattle.std.proofs.lemmas.Iterator.Consumers.{YieldsList-from_enumerate, YieldsList-at}
use Rattle.std.specs.Iterator.Adapters.{zip_first, zip_second, take_source, take_count, take_steps, enumerate_source, enumerate_count, enumerate_steps}
use Rattle.std.specs.Slice.Iter.{iter_rest}
use Rattle.std.specs.declared.iter.Enumerate.{Enumerate}
use Rattle.std.specs.declared.iter.Take.{Take}
use Rattle.std.specs.declared.iter.Zip.{Zip}
use Rattle.std.specs.List.{zip, enumerate_from}
use Rattle.std.specs.Fmt.{decimal, signed_decimal}
use Rattle.fields.specs.Numerals.{Bytes, numeral}
use Rattle.fields.specs.Lines.{line}
use Rattle.fields.proofs.Printed.{numeral_printed, signed_printed}
use Rattle.quoting.specs.Printing.{plan_line, refusal_line}

regroup : (t a b c d e : Bytes) → a ++ (t ++ (b ++ (t ++ (c ++ (t ++ (d ++ e)))))) ≡ (a ++ (t ++ (b ++ (t ++ (c ++ (t ++ d)))))) ++ e
regroup t a b c d e = simp append_assoc

line_of_four : (l : ℕ) (a b c d a' b' c' d' : Bytes) → a ≡ a' → b ≡ b' → c ≡ c' → d ≡ d' →
    l ∷ 9 ∷ (a ++ (9 ∷ (b ++ (9 ∷ (c ++ (9 ∷ (d ++ (10 ∷ [])))))))) ≡ line l (a' ∷ b' ∷ c' ∷ d' ∷ [])
line_of_four l a b c d a' b' c' d' p q r s = let e = regroup (9 ∷ []) a b c d (10 ∷ []) in cc

pub refusal_printed : (n : ℕ) (p : ℕ × ℕ × ℕ) → n < 2 ^ 64 → p.0 < 2 ^ 64 → p.1 < 2 ^ 64 → p.2 < 2 ^ 64 →
    78 ∷ 9 ∷ (decimal n ++ (9 ∷ (decimal p.0 ++ (9 ∷ (decimal p.1 ++ (9 ∷ (decimal p.2 ++ (10 ∷ [])))))))) ≡ refusal_line n p
refusal_printed n p hn h0 h1 h2 = line_of_four 78 _ _ _ _ _ _ _ _ (numeral_printed n hn) (numeral_printed p.0 h0) (numeral_printed p.1 h1) (numeral_printed p.2 h2)

pub entry_printed : (n s r : ℕ) (v : ℤ) → n < 2 ^ 64 → s < 2 ^ 64 → r < 2 ^ 64 → SFits w64 v →
    80 ∷ 9 ∷ (decimal n ++ (9 ∷ (decimal s ++ (9 ∷ (decimal r ++ (9 ∷ (signed_decimal v ++ (10 ∷ [])))))))) ≡ plan_line n s r v
entry_printed n s r v hn hs hr hv = line_of_four 80 _ _ _ _ _ _ _ _ (numeral_printed n hn) (numeral_printed s hs) (numeral_printed r hr) (signed_printed v (Fits-nat_abs {w' = w64} tt hv).fits)

pub count_printed : (n : ℕ) → n < 2 ^ 64 → 84 ∷ 9 ∷ (decimal n ++ (10 ∷ [])) ≡ line 84 (numeral n ∷ [])
count_printed n h = ap (λ bs. 84 ∷ 9 ∷ (bs ++ (10 ∷ []))) (numeral_printed n h)

-- the first n entries of two tables, each with its place
abbrev pub entries : List ℤ → List ℕ → ℕ → List (ℕ × (ℤ × ℕ))
entries vs rs n = enumerate_from 0 (take n (zip vs rs))

pub yields_entries : (vs : List ℤ) (rs : List ℕ) (n : ℕ) (z : Zip (Iter ℤ) (Iter ℕ)) (t : Take (Zip (Iter ℤ) (Iter ℕ))) (s : Enumerate (Take (Zip (Iter ℤ) (Iter ℕ)))) →
    iter_rest (zip_first z) ≡ vs → iter_rest (zip_second z) ≡ rs → take_source t ≡ z → take_count t ≡ n → enumerate_source s ≡ t → enumerate_count s ≡ 0 →
    YieldsList (enumerate_steps (take_steps (zips fronts fronts))) (λ p. (p.0, (p.1.0.now, p.1.1.now))) s (entries vs rs n)
yields_entries vs rs n z t s first second pairs count part start =
    YieldsList-from_enumerate (YieldsList-at part (YieldsList-from_take n (YieldsList-at pairs (YieldsList-from_zip (YieldsList-from_slice vs first) (YieldsList-from_slice rs second))) count)) start

pair_at : (vs : List ℤ) (rs : List ℕ) (n i : ℕ) (p : ℤ × ℕ) → i < min n (min (length vs) (length rs)) → get_or (take n (zip vs rs)) i p ≡ (get_or vs i (pos 0), get_or rs i 0)
pair_at vs rs n i p h =
    let few : i < n = omega (arith, h) in
    let value : i < length vs = omega (arith, h) in
    let remedy : i < length rs = omega (arith, h) in
    get_or-take n (zip vs rs) i p few
    ∙ get_or-zip vs rs i p value remedy
    ∙ ap (λ (v : ℤ). (v, get_or rs i p.1)) (get_or_default vs i p.0 (pos 0) value)
    ∙ ap (λ (r : ℕ). (get_or vs i (pos 0), r)) (get_or_default rs i p.1 0 remedy)

pub entry_at : (vs : List ℤ) (rs : List ℕ) (n i : ℕ) (x : ℕ × (ℤ × ℕ)) → (i < length (entries vs rs n)) × (x ≡ get_or (entries vs rs n) i x) → x ≡ (i, (get_or vs i (pos 0), get_or rs i 0))
entry_at vs rs n i x h =
    let within : i < length (take n (zip vs rs)) = omega (arith, length-enumerate_from 0 (take n (zip vs rs)), h.0) in
    let short : i < min n (min (length vs) (length rs)) = omega (arith, length-take n (zip vs rs), length-zip vs rs, within) in
    let from_zero : 0 + i ≡ i = omega arith in
    h.1 ∙ get_or-enumerate_from 0 (take n (zip vs rs)) i x within ∙ ap (λ (j : ℕ). (j, get_or (take n (zip vs rs)) i x.1)) from_zero ∙ ap (λ (p : ℤ × ℕ). (i, p)) (pair_at vs rs n i x.1 short)

pub length-entries : (vs : List ℤ) (rs : List ℕ) (n : ℕ) → n ≤ length vs → n ≤ length rs → length (entries vs rs n) ≡ n
length-entries vs rs n h g = length-enumerate_from 0 (take n (zip vs rs)) ∙ length-take-le n (zip vs rs) (omega (arith, length-zip vs rs))
