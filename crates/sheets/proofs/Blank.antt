-- A sheet without notes means what its book means.
use Rattle.std.proofs.Common.{◌≡◌, ℕ, zero, suc, ◌<◌, Bool, true, false, cond, T, eqb, List, [], ◌∷◌, length, ℤ, pos, negsuc, ◌+ℤ◌, sym, refl, ap, ◌∙◌, subst, arith}
use mathlib.Core.Path.{fun_ext}
use lib.IntN.{+ℤ_idr}
use Rattle.std.proofs.lemmas.Int.{ints, clamps}
use Rattle.std.proofs.Math.Bool.{and-true}
use Rattle.std.proofs.lemmas.Bool.{eqb-true}
use Rattle.std.proofs.lemmas.Bool.Decides.{nat_tests}
use Rattle.model.specs.Model.{Model, Offers, offers, Money, Inside, Lawful}
use Rattle.sheets.specs.declared.note.Note.{Note}
use Rattle.sheets.specs.Notes.{held, inside, noted}
use Rattle.sheets.specs.Laws.{BlankSheetIsTheBook}

is_inside : (o : Offers) (n s r j : ℕ) → Inside o n s r → j < o.conditions → inside o n s r j ≡ true
is_inside o n s r j i l = grind (arith, nat_tests)

nonzero : (z : ℤ) → (¬ (z ≡ pos 0) → ⊥) → z ≡ pos 0
nonzero (pos zero) h = refl
nonzero (pos (suc n)) h = absurd (h (λ e. omega (arith, ints)))
nonzero (negsuc n) h = absurd (h (λ e. omega (arith, ints)))

held_same : (z : ℤ) → Money z → held z ≡ z
held_same z h = let low = h.low in let high = h.high in omega (arith, ints, clamps)

pub blank_sheet_is_the_book : BlankSheetIsTheBook
blank_sheet_is_the_book m lawful = λ i. record {
  conditions = m.conditions;
  remedies = m.remedies;
  parts = m.parts;
  offered = fun_ext (λ n. fun_ext (λ s. fun_ext (λ r. and-true (m.offered n s r)))) i;
  share = m.share;
  amount = fun_ext (λ n. fun_ext (λ s. fun_ext (λ r. fun_ext (λ j. same n s r j (inside (offers m) n s r j) refl)))) i;
  worth = m.worth;
}
  where
    same : (n s r j : ℕ) (b : Bool) → inside (offers m) n s r j ≡ b → cond b (held (m.amount n s r j +ℤ pos 0)) (pos 0) ≡ m.amount n s r j
    same n s r j true e = ap held (+ℤ_idr (m.amount n s r j)) ∙ held_same (m.amount n s r j) (lawful.amount_fits n s r j)
    same n s r j false e = sym (nonzero (m.amount n s r j) (λ h.
        let x = lawful.amount_inside n s r j h in
        subst T (sym (is_inside (offers m) n s r j x.0 x.1) ∙ e) tt))

pub blank_is_the_book : (m : Model) (ns : List Note) → Lawful m → eqb (length ns) 0 ≡ true → noted m ns ≡ m
blank_is_the_book m [] lawful e = blank_sheet_is_the_book m lawful
blank_is_the_book m (x ∷ ns) lawful e = let z = eqb-true _ 0 e in absurd (omega arith)
