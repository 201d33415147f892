-- Lines as they are printed.
use Rattle.std.proofs.Common.{◌≡◌, ℕ, ◌+◌, ◌/◌, ◌%◌, ◌^◌, ◌<◌, List, [], ◌∷◌, ◌++◌, map, ℤ, pos, Bor, w64, SFits, sym, ap, ◌∙◌, append_assoc, append-nil}
use Rattle.std.proofs.Math.Facts.{Fits-nat_abs}
use Rattle.std.specs.Fmt.{decimal, signed_decimal}
use Rattle.fields.specs.Numerals.{Bytes}
use Rattle.fields.specs.Lines.{line}
use Rattle.fields.proofs.Printed.{numeral_printed, signed_printed}
use Rattle.answers.specs.Words.{word}
use Rattle.quoting.specs.Printing.{plan_line}
use Rattle.answers.specs.Printing.{refusal_line, answer_line, silent_line, entry_lines}

two_parts : (t a b e : Bytes) → a ++ (t ++ (b ++ e)) ≡ (a ++ (t ++ b)) ++ e
two_parts t a b e = simp append_assoc

six_parts : (t a b c d e f g : Bytes) → a ++ (t ++ (b ++ (t ++ (c ++ (t ++ (d ++ (t ++ (e ++ (t ++ (f ++ g)))))))))) ≡ (a ++ (t ++ (b ++ (t ++ (c ++ (t ++ (d ++ (t ++ (e ++ (t ++ f)))))))))) ++ g
six_parts t a b c d e f g = simp append_assoc

line_of_two : (l : ℕ) (a b a' b' : Bytes) → a ≡ a' → b ≡ b' → l ∷ 9 ∷ (a ++ (9 ∷ (b ++ (10 ∷ [])))) ≡ line l (a' ∷ b' ∷ [])
line_of_two l a b a' b' p q = let e = two_parts (9 ∷ []) a b (10 ∷ []) in cc

line_of_six : (l : ℕ) (a b c d e f a' b' c' d' e' f' : Bytes) → a ≡ a' → b ≡ b' → c ≡ c' → d ≡ d' → e ≡ e' → f ≡ f' →
    l ∷ 9 ∷ (a ++ (9 ∷ (b ++ (9 ∷ (c ++ (9 ∷ (d ++ (9 ∷ (e ++ (9 ∷ (f ++ (10 ∷ [])))))))))))) ≡ line l (a' ∷ b' ∷ c' ∷ d' ∷ e' ∷ f' ∷ [])
line_of_six l a b c d e f a' b' c' d' e' f' p q r s t u = let x = six_parts (9 ∷ []) a b c d e f (10 ∷ []) in cc

pub number_written : (k n : ℕ) → k < 2 ^ 64 → n < 2 ^ 64 → 65 ∷ 9 ∷ (decimal k ++ (9 ∷ (decimal n ++ (10 ∷ [])))) ≡ answer_line k (pos n)
number_written k n h g = line_of_two 65 _ _ _ _ (numeral_printed k h) (numeral_printed n g)

pub total_written : (k : ℕ) (z : ℤ) → k < 2 ^ 64 → SFits w64 z → 65 ∷ 9 ∷ (decimal k ++ (9 ∷ (signed_decimal z ++ (10 ∷ [])))) ≡ answer_line k z
total_written k z h g = line_of_two 65 _ _ _ _ (numeral_printed k h) (signed_printed z (Fits-nat_abs {w' = w64} tt g).fits)

pub silence_written : (k : ℕ) → k < 2 ^ 64 → 83 ∷ 9 ∷ (decimal k ++ (10 ∷ [])) ≡ silent_line k
silence_written k h = ap (λ bs. 83 ∷ 9 ∷ (bs ++ (10 ∷ []))) (numeral_printed k h)

pub refusal_written : (k n : ℕ) (w : Bytes) (p : ℕ × ℕ × ℕ) → w ≡ word n → k < 2 ^ 64 → n < 2 ^ 64 → p.0 < 2 ^ 64 → p.1 < 2 ^ 64 → p.2 < 2 ^ 64 →
    78 ∷ 9 ∷ (decimal k ++ (9 ∷ (decimal n ++ (9 ∷ (w ++ (9 ∷ (decimal p.0 ++ (9 ∷ (decimal p.1 ++ (9 ∷ (decimal p.2 ++ (10 ∷ [])))))))))))) ≡ refusal_line k n p
refusal_written k n w p e h g h0 h1 h2 = line_of_six 78 _ _ _ _ _ _ _ _ _ _ _ _ (numeral_printed k h) (numeral_printed n g) e (numeral_printed p.0 h0) (numeral_printed p.1 h1) (numeral_printed p.2 h2)

-- an entry of a table, as an iterator gives it
abbrev pub entry_of : ℕ × (Bor ℤ × Bor ℕ) → ℕ × (ℤ × ℕ)
entry_of p = (p.0, (p.1.0.now, p.1.1.now))

pub one_entry : (c : ℕ) (ps : List (ℕ × (Bor ℤ × Bor ℕ))) (p : ℕ × (Bor ℤ × Bor ℕ)) → entry_lines c (map entry_of (ps ++ (p ∷ []))) ≡ entry_lines c (map entry_of ps) ++ plan_line (p.0 / c + 1) (p.0 % c) p.1.1.now p.1.0.now
one_entry c [] p = append-nil (plan_line (p.0 / c + 1) (p.0 % c) p.1.1.now p.1.0.now)
one_entry c (q ∷ qs) p = ap (λ bs. plan_line (q.0 / c + 1) (q.0 % c) q.1.1.now q.1.0.now ++ bs) (one_entry c qs p) ∙ sym (append_assoc (plan_line (q.0 / c + 1) (q.0 % c) q.1.1.now q.1.0.now) (entry_lines c (map entry_of qs)) (plan_line (p.0 / c + 1) (p.0 % c) p.1.1.now p.1.0.now))
