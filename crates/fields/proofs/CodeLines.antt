-- What is cut from bytes at the first place of a byte.
use Rattle.std.proofs.Common.{◌≡◌, ℕ, suc, ◌+◌, ◌-◌, ◌<◌, ◌≤◌, Bool, true, false, cond, eqb, ltb, List, [], ◌∷◌, ◌++◌, length, get_or, take, drop, Option, Some, None, MatchOption, sym, refl, ap, ◌∙◌, subst, add-one, eq-eqb, arith, length-drop}
use Rattle.std.specs.List.{position, position_or_len, count_by}
use Rattle.std.proofs.lemmas.List.{take_all}
use Rattle.std.proofs.lemmas.List.Sums.{position_or_len_is}
use Rattle.std.proofs.lemmas.List.Recursion.{is_position_or_len, is_count_by}
use Rattle.std.proofs.lemmas.Bool.{cond_both, eqb-true, ltb-true, ltb-false}
use Rattle.fields.specs.Numerals.{Bytes}
use Rattle.fields.specs.Lines.{split}

module _ (c : ℕ) where
  -- the part before the first c is as long as c's place, and one part follows each c
  front_length : (bs : Bytes) → length (split c bs).0 ≡ position_or_len (λ x. eqb x c) bs
  front_length = is_position_or_len (λ bs. length (split c bs).0) (λ x. eqb x c) refl (λ x xs. either (eqb x c) x (split c xs))
    where
      either : (b : Bool) (x : ℕ) (r : Bytes × List Bytes) → length (cond {A = Bytes × List Bytes} b ([], r.0 ∷ r.1) (x ∷ r.0, r.1)).0 ≡ cond b 0 (1 + length r.0)
      either true x r = refl
      either false x r = omega arith

  pub parts_after : (bs : Bytes) → length (split c bs).1 ≡ count_by (λ x. eqb x c) bs
  parts_after = is_count_by (λ bs. length (split c bs).1) (λ x. eqb x c) refl (λ x xs. either (eqb x c) x (split c xs))
    where
      either : (b : Bool) (x : ℕ) (r : Bytes × List Bytes) → length (cond {A = Bytes × List Bytes} b ([], r.0 ∷ r.1) (x ∷ r.0, r.1)).1 ≡ cond b (1 + length r.1) (length r.1)
      either true x r = omega arith
      either false x r = refl

  split_whole : (bs : Bytes) → length bs ≤ length (split c bs).0 → split c bs ≡ (bs, [])
  split_whole [] h = refl
  split_whole (x ∷ xs) h = cond_both (eqb x c) _ _ (λ (p : Bytes × List Bytes). suc (length xs) ≤ length p.0 → p ≡ (x ∷ xs, [])) (λ e k. absurd (omega arith)) (λ e k. ap (λ p. (x ∷ p.0, p.1)) (split_whole xs (omega arith))) h

  pub first_place : (bs : Bytes) (r : Option ℕ) → r ≡ position (λ x. eqb x c) bs → MatchOption r (split c bs ≡ (bs, [])) (λ at. (at ≡ length (split c bs).0) × (at < length bs))
  first_place bs r e =
      let n = position_or_len (λ x. eqb x c) bs in
      let front = front_length bs in
      let Place = λ (x : Option ℕ). MatchOption x (split c bs ≡ (bs, [])) (λ at. (at ≡ length (split c bs).0) × (at < length bs)) in
      subst Place (sym e) (cond_both (ltb n (length bs)) (Some n) None Place (λ t. (sym front, ltb-true n (length bs) t)) (λ t. split_whole bs (omega (arith, front, ltb-false n (length bs) t))))

  -- the first c, by the places before it
  pub first_at : (bs : Bytes) (at : ℕ) → at < length bs → ((k : ℕ) → k < at → eqb (get_or bs k 0) c ≡ false) → get_or bs at 0 ≡ c → at ≡ length (split c bs).0
  first_at bs at l before here = sym (front_length bs ∙ position_or_len_is (λ x. eqb x c) bs at 0 (omega arith) before (λ _. eq-eqb (get_or bs at 0) c here))

  pub none_at : (bs : Bytes) → ((k : ℕ) → k < length bs → eqb (get_or bs k 0) c ≡ false) → split c bs ≡ (bs, [])
  none_at bs none =
      let whole : position_or_len (λ x. eqb x c) bs ≡ length bs = position_or_len_is (λ x. eqb x c) bs (length bs) 0 (omega arith) none (λ l. absurd (omega arith)) in
      split_whole bs (omega (arith, front_length bs, whole))

  -- bytes are parted at a place n
  abbrev pub Parted : Bytes → ℕ → Bytes → Type 0
  Parted bs n rest = (bs ≡ take n bs ++ (c ∷ rest)) × (split c bs ≡ (take n bs, (split c rest).0 ∷ (split c rest).1))

  split_at : (bs : Bytes) → length (split c bs).0 < length bs → Parted bs (length (split c bs).0) (drop (suc (length (split c bs).0)) bs)
  split_at [] h = absurd (omega arith)
  split_at (x ∷ xs) h =
      cond_both (eqb x c) _ _ (λ (p : Bytes × List Bytes). length p.0 < suc (length xs) → (x ∷ xs ≡ take (length p.0) (x ∷ xs) ++ (c ∷ drop (suc (length p.0)) (x ∷ xs))) × (p ≡ (take (length p.0) (x ∷ xs), (split c (drop (suc (length p.0)) (x ∷ xs))).0 ∷ (split c (drop (suc (length p.0)) (x ∷ xs))).1)))
      (λ e k. (ap (λ y. y ∷ xs) (eqb-true x c e), refl))
      (λ e k. let r = split_at xs (omega arith) in (ap (λ t. x ∷ t) r.0, ap (λ p. (x ∷ p.0, p.1)) r.1)) h

  pub parted_at : (bs : Bytes) (at : ℕ) → at ≡ length (split c bs).0 → at < length bs → Parted bs at (take (length bs - (at + 1)) (drop (at + 1) bs))
  parted_at bs at e h =
      let after : take (length bs - (at + 1)) (drop (at + 1) bs) ≡ drop (suc at) bs = take_all _ (drop (at + 1) bs) (omega (arith, length-drop (at + 1) bs)) ∙ ap (λ (n : ℕ). drop n bs) (add-one at) in
      subst (Parted bs at) (sym after) (subst (λ n. Parted bs n (drop (suc n) bs)) (sym e) (split_at bs (omega arith)))

  pub parted_whole : (bs : Bytes) (at : ℕ) → at ≡ length (split c bs).0 → at < length bs → bs ≡ take at bs ++ (c ∷ take (length bs - (at + 1)) (drop (at + 1) bs))
  parted_whole bs at e h = (parted_at bs at e h).0

  pub parted_split : (bs : Bytes) (at : ℕ) → at ≡ length (split c bs).0 → at < length bs → split c bs ≡ (take at bs, (split c (take (length bs - (at + 1)) (drop (at + 1) bs))).0 ∷ (split c (take (length bs - (at + 1)) (drop (at + 1) bs))).1)
  parted_split bs at e h = (parted_at bs at e h).1
