-- No word is a single byte, and none begins with a digit or a minus.
use Rattle.std.proofs.Common.{◌≡◌, ℕ, ◌≤◌, Bool, true, false, cond, List, [], ◌∷◌, length, get_or, Some, None, Bor, refl, ap, ◌∙◌, arith, lit≤}
use Rattle.std.specs.List.{find}
use Rattle.std.specs.Str.{bytes_eq}
use Rattle.std.proofs.lemmas.Bool.{false≢true}
use Rattle.std.proofs.lemmas.Bool.Decides.{nat_tests}
use Rattle.std.proofs.lemmas.Slice.Eq.{bytes_eq-Decides}
use Rattle.fields.specs.Numerals.{Bytes}
use Rattle.fields.specs.Views.{bytes_of, numeric, rightly_told}
use Rattle.fields.specs.declared.parts.Field.{Field}
use Rattle.fields.specs.declared.parts.Field.TheVariants.{Letter, Number, Other}
use Rattle.script.specs.declared.word.Word.{Word}
use Rattle.script.specs.declared.word.Word.TheVariants.{Bar, Surcharge, Prolong, Lift, Plan, Judge, Begin, Treat, Report, Settle}
use Rattle.script.specs.declared.word.TheConstants.{WORDS}
use Rattle.script.specs.Words.{text_of, word_in}

long : (w : Word) → 2 ≤ length (text_of w)
long Bar = lit≤ tt
long Surcharge = lit≤ tt
long Prolong = lit≤ tt
long Lift = lit≤ tt
long Plan = lit≤ tt
long Judge = lit≤ tt
long Begin = lit≤ tt
long Treat = lit≤ tt
long Report = lit≤ tt
long Settle = lit≤ tt

lettered : (w : Word) → 97 ≤ get_or (text_of w) 0 0
lettered Bar = lit≤ tt
lettered Surcharge = lit≤ tt
lettered Prolong = lit≤ tt
lettered Lift = lit≤ tt
lettered Plan = lit≤ tt
lettered Judge = lit≤ tt
lettered Begin = lit≤ tt
lettered Treat = lit≤ tt
lettered Report = lit≤ tt
lettered Settle = lit≤ tt

none_found : {X : Type 0} (p : X → Bool) → ((x : X) → p x ≡ false) → (xs : List X) → find p xs ≡ None
none_found p differs [] = refl
none_found p differs (x ∷ xs) = ap (λ b. cond b (Some x) (find p xs)) (differs x) ∙ none_found p differs xs

unlike : (bs : Bytes) → ((w : Word) → text_of w ≡ bs → ⊥) → word_in bs ≡ None
unfolding word_in
unlike bs differs = none_found (λ w. bytes_eq (text_of w) bs) (λ w. at (bytes_eq (text_of w) bs) (λ e. differs w ((bytes_eq-Decides (text_of w) bs).0 e))) WORDS
  where
    at : (b : Bool) → (b ≡ true → ⊥) → b ≡ false
    at true h = absurd (h refl)
    at false h = refl

pub no_letter : (x : ℕ) → word_in (x ∷ []) ≡ None
no_letter x = unlike (x ∷ []) (λ w e. let n = ap length e in let l = long w in omega arith)

pub no_number : (bs : Bytes) → numeric bs ≡ true → word_in bs ≡ None
no_number [] h = absurd (false≢true h)
no_number (x ∷ xs) h = unlike (x ∷ xs) (λ w e. let l = lettered w in let n : get_or (text_of w) 0 0 ≡ x = ap (λ bs. get_or bs 0 0) e in grind (arith, nat_tests))

pub no_other : (f : Field) → rightly_told f ≡ true → ((p : Bor Bytes) → f ≡ Other p → ⊥) → word_in (bytes_of f) ≡ None
no_other (Letter c) t differs = no_letter c
no_other (Number p) t differs = no_number p.now t
no_other (Other p) t differs = absurd (differs p refl)
