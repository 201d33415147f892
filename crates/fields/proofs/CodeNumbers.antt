-- What is answered of a field that must be a number.
use Rattle.std.proofs.Common.{◌≡◌, ℕ, ◌<◌, ◌≤◌, true, false, not, ◌&&◌, eqb, leb, ◌⊎◌, [], ◌∷◌, pos, refl, ap, ◌∙◌, ⊎_elim, arith, Bor}
use Rattle.std.proofs.lemmas.Bool.{cond-true, cond-false, and_from, and_left, and_right, and_parts, or_parts, or_cases, not-true, le-leb, lt-leb, leb-true, both_ways}
use Rattle.std.specs.Char.{is_ascii_alphabetic}
use Rattle.fields.specs.Numerals.{Bytes, value, BaseTen}
use Rattle.fields.specs.Kinds.Kind.{from_to}
use Rattle.fields.specs.Checking.{reported, check_field}
use Rattle.fields.specs.Checking.Checked.{good, faulty}
use Rattle.fields.specs.Views.{bytes_of, rightly_told, numeric, lone_letter}
use Rattle.fields.specs.declared.parts.Field.{Field}
use Rattle.fields.specs.declared.parts.Field.TheVariants.{Letter, Number, Other}
use Rattle.fields.proofs.CodeNumerals.{well_formed, malformed, held}

module _ (k i : ℕ) where
  pub number_good : (a b : ℕ) (f : Bytes) (n : ℕ) → BaseTen f → n ≡ held (value f) → a ≤ n → n ≤ b → b < 4294967296 → check_field k i (from_to a b) f ≡ good (pos n)
  number_good a b f n base e low high small =
      let v : value f ≡ n = omega arith in
      cond-true _ _ _ (well_formed f base) ∙ cond-true _ _ _ (and_from (leb a (value f)) (leb (value f) b) (le-leb a (value f) (omega arith)) (le-leb (value f) b (omega arith))) ∙ ap (λ (x : ℕ). good (pos x)) v

  pub number_range : (a b : ℕ) (f : Bytes) (n : ℕ) → BaseTen f → n ≡ held (value f) → (n < a) ⊎ (b < n) → a < 4294967296 → check_field k i (from_to a b) f ≡ faulty (reported 23 k i)
  number_range a b f n base e out small =
      cond-true _ _ _ (well_formed f base) ∙ cond-false _ _ _ (⊎_elim (λ l. and_left (leb a (value f)) (leb (value f) b) (lt-leb a (value f) (omega arith))) (λ l. and_right (leb a (value f)) (leb (value f) b) (lt-leb (value f) b (omega arith))) out)

  pub number_ill : (a b : ℕ) (f : Bytes) → (BaseTen f → ⊥) → check_field k i (from_to a b) f ≡ faulty (reported 22 k i)
  number_ill a b f out = cond-false _ _ _ (malformed f (value f) out)

-- a field that is not taken for a number is not the numeral of one
letter_high : (x : ℕ) → is_ascii_alphabetic x ≡ true → 65 ≤ x
letter_high x e = ⊎_elim (λ a. leb-true 65 x (and_parts (leb 65 x) (leb x 90) a).0) (λ a. let h = leb-true 97 x (and_parts (leb 97 x) (leb x 122) a).0 in omega arith) (or_cases _ _ e)

not_numeric : (bs : Bytes) → numeric bs ≡ false → ¬ BaseTen bs
not_numeric [] e b = omega (arith, b.some)
not_numeric (x ∷ xs) e b =
    let p = or_parts (leb 48 x && leb x 57) (eqb x 45) e in
    both_ways (leb 48 x && leb x 57) p.0 (and_from (leb 48 x) (leb x 57) (le-leb 48 x (b.low 0 (omega arith))) (le-leb x 57 (b.high 0 (omega arith))))

pub unnumbered : (f : Field) → rightly_told f ≡ true → ((p : Bor Bytes) → f ≡ Number p → ⊥) → ¬ BaseTen (bytes_of f)
unnumbered (Letter x) e h b = let l = letter_high x e in let u : x ≤ 57 = b.high 0 (omega arith) in omega arith
unnumbered (Number p) e h b = h p refl
unnumbered (Other p) e h b = not_numeric p.now (not-true (numeric p.now) (and_parts (not (lone_letter p.now)) (not (numeric p.now)) e).1) b
