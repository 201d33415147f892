-- What entering and lifting a note change.
use Rattle.std.proofs.Common.{◌≡◌, ℕ, suc, ◌+◌, ◌-◌, ◌≤◌, Bool, true, false, cond, not, ◌||◌, T, leb, List, [], ◌∷◌, ◌++◌, length, take, drop, ℤ, ◌+ℤ◌, sym, refl, ap, ◌∙◌, arith, leb→le}
use mathlib.Core.Bool.{or_comm}
use lib.IntN.{+ℤ_assoc, +ℤ_idl, +ℤ_idr}
use Rattle.std.proofs.lemmas.List.{append-nil, length_push, take-append-drop, take_at, drop_all, drop_more}
use Rattle.std.proofs.lemmas.List.Folds.{list_any-append}
use Rattle.std.proofs.lemmas.Int.{ints}
use Rattle.std.proofs.lemmas.Bool.{le-leb, and_from}
use Rattle.std.proofs.Math.Facts.{and_yes}
use Rattle.sheets.specs.declared.note.Note.{Note}
use Rattle.sheets.specs.Notes.{bars, barred, charge, surcharged}
use Rattle.sheets.specs.Calls.{Answered, stands_at, no_note, note_at, to_lift}
use Rattle.sheets.specs.Laws.{EnteringAddsOne, LiftingTakesOne, LiftingUndoesEntering}

surcharged_append : (xs ys : List Note) (n r : ℕ) → surcharged (xs ++ ys) n r ≡ surcharged xs n r +ℤ surcharged ys n r
surcharged_append [] ys n r = sym (+ℤ_idl (surcharged ys n r))
surcharged_append (x ∷ xs) ys n r =
    ap (λ z. charge x n r +ℤ z) (surcharged_append xs ys n r) ∙ sym (+ℤ_assoc (charge x n r) (surcharged xs n r) (surcharged ys n r))

pub entering_adds_one : EnteringAddsOne
entering_adds_one ns x n s r =
    (list_any-append (λ y. bars y n s r) ns (x ∷ []) ∙ ap (λ b. barred ns n s r || b) (or_comm (bars x n s r) false), surcharged_append ns (x ∷ []) n r ∙ ap (λ z. surcharged ns n r +ℤ z) (+ℤ_idr (charge x n r)))

-- a list at a place that stands: what is before it, the note, what is after it
parted : (ns : List Note) (p : ℕ) → 1 ≤ p → p ≤ length ns → ns ≡ take (p - 1) ns ++ (note_at ns p ∷ drop p ns)
parted ns p from to =
    let rest = drop_more ns (p - 1) no_note (omega arith) in
    let next : p - 1 + 1 ≡ p = omega arith in
    sym (take-append-drop (p - 1) ns) ∙ ap (λ l. take (p - 1) ns ++ l) (rest ∙ ap (λ k. note_at ns p ∷ drop k ns) next)

accepted : (b : Bool) (x y : Answered) → T b → cond (not b) x y ≡ y
accepted true x y h = refl
accepted false x y h = absurd h

lifted : (ns : List Note) (p : ℕ) → T (stands_at ns p) → (to_lift ns p).1 ≡ take (p - 1) ns ++ drop p ns
lifted ns p h = ap (λ a. a.1) (accepted (stands_at ns p) _ _ h)

or_swap : (a x b : Bool) → (a || (x || b)) ≡ (x || (a || b))
or_swap true true b = refl
or_swap true false b = refl
or_swap false true b = refl
or_swap false false b = refl

add_swap : (a x b : ℤ) → a +ℤ (x +ℤ b) ≡ x +ℤ (a +ℤ b)
add_swap a x b = omega (arith, ints)

pub lifting_takes_one : LiftingTakesOne
lifting_takes_one ns p n s r h =
    let at = and_yes (leb 1 p) (leb p (length ns)) h in
    let split = parted ns p (leb→le 1 p at.0) (leb→le p (length ns) at.1) in
    let left = take (p - 1) ns in
    let right = drop p ns in
    let x = note_at ns p in
    (ap (λ l. barred l n s r) split ∙ list_any-append (λ y. bars y n s r) left (x ∷ right) ∙ or_swap (barred left n s r) (bars x n s r) (barred right n s r) ∙ ap (λ b. bars x n s r || b) (sym (list_any-append (λ y. bars y n s r) left right) ∙ ap (λ l. barred l n s r) (sym (lifted ns p h))), ap (λ l. surcharged l n r) split ∙ surcharged_append left (x ∷ right) n r ∙ add_swap (surcharged left n r) (charge x n r) (surcharged right n r) ∙ ap (λ z. charge x n r +ℤ z) (sym (surcharged_append left right n r) ∙ ap (λ l. surcharged l n r) (sym (lifted ns p h))))

pub lifting_undoes_entering : LiftingUndoesEntering
lifting_undoes_entering ns x =
    let all = ns ++ (x ∷ []) in
    let long = length_push ns x in
    let stands : stands_at all (suc (length ns)) ≡ true = and_from _ _ (le-leb 1 (suc (length ns)) (omega arith)) (le-leb (suc (length ns)) (length all) (omega arith)) in
    let left : length all - 1 ≡ length ns = omega arith in
    let before = take_at ns (x ∷ []) (suc (length ns) - 1) (omega arith) in
    let after = drop_all (suc (length ns)) all (omega arith) in
    let none = append-nil ns in
    cc
