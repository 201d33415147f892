-- A line whose word is known and has the right count of fields.
use Rattle.std.proofs.Common.{◌≡◌, ℕ, suc, ◌+◌, ◌-◌, ◌≤◌, Bool, true, false, cond, List, [], ◌∷◌, length, Some, Ok, Result, sym, refl, ap, ◌∙◌, subst, arith}
use Rattle.std.specs.Prelude.{◌==◌}
use Rattle.std.proofs.lemmas.List.{length-replicate}
use Rattle.std.proofs.lemmas.Bool.{eq-eqb}
use Rattle.fields.specs.declared.parts.Field.{Field}
use Rattle.fields.specs.Numerals.{Bytes}
use Rattle.fields.specs.Lines.{split}
use Rattle.fields.specs.Checking.{reported, Checked, and_then}
use Rattle.fields.specs.Checking.Checked.{good, faulty}
use Rattle.fields.specs.Views.{bytes_of, CutField, LeftAfter}
use Rattle.bookfile.specs.Entered.{Left}
use Rattle.script.specs.declared.command.Command.{Command}
use Rattle.script.specs.declared.command.Unread.{Unread}
use Rattle.script.specs.declared.word.Word.{Word}
use Rattle.script.specs.declared.word.Word.TheVariants.{Judge}
use Rattle.script.specs.Words.{word_in}
use Rattle.script.specs.Orders.{Order, form, remedy}
use Rattle.script.specs.Forms.{known, check_rest, check_order}
use Rattle.script.specs.Commands.{order_of, RestRead, JudgeRead, CommandAnswers}

-- line k begins with a word and has so many fields as it asks; what is left of it has the second field next
pub record Worded (k : ℕ) (t : Bytes) (w : Word) (k' at : ℕ) (rest : Bytes) : Type 0 where
  pub word : word_in (split 9 t).0 ≡ Some w
  pub line : k' ≡ k
  pub place : at ≡ 2
  pub left : Left rest (split 9 t).1
  pub many : length (split 9 t).1 ≡ length (form w (length (split 9 t).1))

left_of : (t rest : Bytes) (k i n at : ℕ) → LeftAfter k i t n at rest → (fs : List Bytes) → (split 9 t).1 ≡ fs → Left rest fs
left_of t rest k i n at a [] e = tt
left_of t rest k i n at a (f ∷ fs) e = a.parts_are f fs e

pub worded : {k k' i m o n at count expected : ℕ} {t t' rest : Bytes} {f : Field} {w : Word} → k' ≡ k → i ≡ 1 → t' ≡ t → CutField k' i t' m o f → LeftAfter k' i t' n at rest → word_in (bytes_of f) ≡ Some w → count ≡ length (split 9 t).1 → count ≡ expected → expected ≡ length (form w count) → Worded k t w n at rest
worded {k} {k'} {i} {m} {o} {n} {at} {count} {expected} {t} {t'} {rest} {f} {w} line first text c a e p q r =
    let j = a.place_is in
    record {
      word = ap (λ bs. word_in (split 9 bs).0) (sym text) ∙ ap word_in (sym c.bytes_are) ∙ e;
      line = a.line_is ∙ line;
      place = omega arith;
      left = subst (λ bs. Left rest (split 9 bs).1) text (left_of t' rest k' i n at a (split 9 t').1 refl);
      many = subst (λ x. x ≡ length (form w x)) p (q ∙ r);
    }

pub of_rest : {k k' at : ℕ} {t rest : Bytes} {w : Word} (r : Checked Order) → Worded k t w k' at rest → check_rest k w (split 9 t).1 ≡ r → check_order k t ≡ r
of_rest {k} {k'} {at} {t} {rest} {w} r h e =
    let fs = (split 9 t).1 in
    ap (λ o. and_then (known k o) (λ x. cond (length fs == length (form x (length fs))) (check_rest k x fs) (faulty (reported 21 k 0)))) h.word
    ∙ ap (λ b. cond b (check_rest k w fs) (faulty (reported 21 k 0))) (eq-eqb (length fs) (length (form w (length fs))) h.many)
    ∙ e

pub of_command : {k k' at : ℕ} {t rest : Bytes} {w : Word} (v : Word) (c r : Command) → w ≡ v → Worded k t w k' at rest → RestRead v k' at rest (Ok c) → r ≡ c → check_order k t ≡ good (order_of r)
of_command {k} {k'} {at} {t} {rest} {w} v c r e h j is =
    let fs = (split 9 t).1 in
    let g = subst (λ x. Worded k t x k' at rest) e h in
    of_rest (good (order_of c)) g (subst (λ l. check_rest l v fs ≡ good (order_of c)) g.line (j fs g.left g.place g.many)) ∙ ap (λ x. good (order_of x)) (sym is)

pub of_judge : {k k' at count : ℕ} {t rest : Bytes} {w : Word} (r : Result Command Unread) → w ≡ Judge → Worded k t w k' at rest → count ≡ length (split 9 t).1 → JudgeRead (count - 2) k' at rest r → CommandAnswers (check_order k t) r
of_judge {k} {k'} {at} {count} {t} {rest} {w} r e h p j =
    let fs = (split 9 t).1 in
    let g = subst (λ x. Worded k t x k' at rest) e h in
    let n = length-replicate (length fs - 2) remedy in
    let m = g.many in
    let long : length fs ≡ count - 2 + 2 = omega arith in
    subst (λ x. CommandAnswers x r) (sym (of_rest (check_rest k Judge fs) g refl)) (subst (λ l. CommandAnswers (check_rest l Judge fs) r) g.line (j fs g.left g.place long))

nothing : (w : Word) (o : Order) (k : ℕ) → ((n : ℕ) → form w n ≡ []) → check_rest k w [] ≡ good o → (fs : List Bytes) → length fs ≡ length (form w (length fs)) → check_rest k w fs ≡ good o
nothing w o k none e [] p = e
nothing w o k none e (f ∷ fs) p = absurd (let q = ap length (none (length (f ∷ fs))) in omega arith)

pub of_word : {k k' at : ℕ} {t rest : Bytes} {w : Word} (v : Word) (c r : Command) → w ≡ v → Worded k t w k' at rest → ((n : ℕ) → form v n ≡ []) → check_rest k v [] ≡ good (order_of c) → r ≡ c → check_order k t ≡ good (order_of r)
of_word {k} {k'} {at} {t} {rest} {w} v c r e h none q is =
    let g = subst (λ x. Worded k t x k' at rest) e h in
    of_rest (good (order_of c)) g (nothing v (order_of c) k none q (split 9 t).1 g.many) ∙ ap (λ x. good (order_of x)) (sym is)

pub few_parts : (bs : Bytes) → length (split 9 bs).1 ≤ length bs
few_parts [] = omega arith
few_parts (x ∷ xs) = let h = few_parts xs in either (x == 9) (split 9 xs) (length xs) h
  where
    either : (b : Bool) (r : Bytes × List Bytes) (n : ℕ) → length r.1 ≤ n → length (cond {A = Bytes × List Bytes} b ([], r.0 ∷ r.1) (x ∷ r.0, r.1)).1 ≤ suc n
    either true r n h = omega arith
    either false r n h = omega arith
