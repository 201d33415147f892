-- The remedies of a table, cut off one by one.
use Rattle.std.proofs.Common.{◌≡◌, ℕ, suc, ◌+◌, ◌-◌, ◌^◌, ◌<◌, List, [], ◌∷◌, ◌++◌, length, map, replicate, ℤ, pos, Err, sym, refl, ap, ◌∙◌, append_assoc, append-nil, arith}
use Rattle.std.specs.Prelude.{unsigned_abs}
use Rattle.std.proofs.lemmas.List.{map-append}
use Rattle.fields.specs.declared.parts.Field.{Field}
use Rattle.fields.specs.Numerals.{Bytes}
use Rattle.fields.specs.Lines.{split}
use Rattle.fields.specs.Kinds.{Kind}
use Rattle.fields.specs.Checking.{Reported, Checked, and_then, check_field, check_fields}
use Rattle.fields.specs.Checking.Checked.{good, faulty}
use Rattle.fields.specs.Views.{bytes_of, CutField, LeftAfter}
use Rattle.bookfile.specs.Entered.{Left}
use Rattle.bookfile.proofs.Cutting.{next_left, same_field}
use Rattle.script.specs.declared.word.Word.TheVariants.{Judge}
use Rattle.quoting.specs.declared.question.By.{By}
use Rattle.quoting.specs.declared.question.By.TheVariants.{Mean, Floor}
use Rattle.script.specs.declared.command.Unread.{Unread}
use Rattle.script.specs.declared.command.Unread.TheVariants.{Faulty, NoMemory}
use Rattle.script.specs.Orders.{Order, number, remedy, by_letter, order_from}
use Rattle.quoting.specs.Asking.{letter_of, criterion_letters}
use Rattle.script.specs.Orders.Order.{judges}
use Rattle.script.specs.Commands.{TableAnswers, CommandAnswers}
use Rattle.script.specs.Forms.{check_rest}

-- the values read so far before those that are read of the fields left
abbrev pub onto : List ℕ → Checked (List ℤ) → Checked (List ℤ)
onto xs r = and_then r (λ zs. good (map pos xs ++ zs))

-- of `count` fields from place `at` of line k on, these remedies were read, and so many fields are left
pub record SoFar (count k at : ℕ) (rest : Bytes) (left k' at' : ℕ) (rest' : Bytes) (xs : List ℕ) : Type 0 where
  pub line : k' ≡ k
  pub place : at' + left ≡ at + count
  pub whole : (fs : List Bytes) → Left rest fs → length fs ≡ count → (gs : List Bytes) × Left rest' gs × (length gs ≡ left) × (check_fields k at (replicate count remedy) fs ≡ onto xs (check_fields k at' (replicate left remedy) gs))

pub none_read : (count k at : ℕ) (rest : Bytes) → SoFar count k at rest count k at rest []
none_read count k at rest = record { line = refl; place = refl; whole = λ fs l n. (fs, l, n, sym (unchanged (check_fields k at (replicate count remedy) fs))) }
  where
    unchanged : (r : Checked (List ℤ)) → and_then r (λ zs. good zs) ≡ r
    unchanged (good zs) = refl
    unchanged (faulty e) = refl

one_onto : (xs : List ℕ) (x : ℕ) (r : Checked (List ℤ)) → onto xs (and_then r (λ zs. good (pos x ∷ zs))) ≡ onto (xs ++ (x ∷ [])) r
one_onto xs x (good zs) = ap good (sym (append_assoc (map pos xs) (pos x ∷ []) zs) ∙ ap (λ ys. ys ++ zs) (sym (map-append pos xs (x ∷ []))))
one_onto xs x (faulty e) = refl

-- a field that is cut off is the next one, and what it is checked for decides about the others
next_checked : {k k' at' m o : ℕ} {rest' f : Bytes} {fs : List Bytes} {g : Field} {r : Checked ℤ} (ts : List Kind) → k' ≡ k → split 9 rest' ≡ (f, fs) → CutField k' at' rest' m o g → check_field m o remedy (bytes_of g) ≡ r → check_fields k at' (remedy ∷ ts) (f ∷ fs) ≡ and_then r (λ z. and_then (check_fields k (suc at') ts fs) (λ zs. good (z ∷ zs)))
next_checked {k} {k'} {at'} {m} {o} {rest'} {f} {fs} ts l s c e = ap (λ x. and_then x (λ z. and_then (check_fields k (suc at') ts fs) (λ zs. good (z ∷ zs)))) (same_field c k at' remedy f fs l refl s ∙ e)

module _ {count k at : ℕ} {rest : Bytes} {k' at' : ℕ} {rest' : Bytes} {xs : List ℕ} where
  pub one_more : {n m o n' at'' : ℕ} {after : Bytes} {g : Field} (x : ℕ) → SoFar count k at rest (suc n) k' at' rest' xs → at + count < 2 ^ 64 → CutField k' at' rest' m o g → LeftAfter k' at' rest' n' at'' after → check_field m o remedy (bytes_of g) ≡ good (pos x) → SoFar count k at rest n n' at'' after (xs ++ (x ∷ []))
  one_more {n} {m} {o} {n'} {at''} {after} {g} x so few c a e =
      let p = so.place in
      let q = a.place_is in
      let next : at'' ≡ suc at' = omega arith in
      record { line = a.line_is ∙ so.line; place = omega arith; whole = λ fs l long. step next (so.whole fs l long) }
    where
      step : {x' : Checked (List ℤ)} → at'' ≡ suc at' → (gs : List Bytes) × Left rest' gs × (length gs ≡ suc n) × (x' ≡ onto xs (check_fields k at' (replicate (suc n) remedy) gs)) → (gs : List Bytes) × Left after gs × (length gs ≡ n) × (x' ≡ onto (xs ++ (x ∷ [])) (check_fields k at'' (replicate n remedy) gs))
      step next ([], s, w, h) = absurd (omega arith)
      step next (f ∷ gs, s, w, h) = (gs, next_left rest' after f gs k' at' n' at'' s a, omega arith, h ∙ ap (onto xs) (next_checked (replicate n remedy) so.line s c e) ∙ one_onto xs x (check_fields k (suc at') (replicate n remedy) gs) ∙ ap (λ i. onto (xs ++ (x ∷ [])) (check_fields k i (replicate n remedy) gs)) (sym next))

  pub one_faulty : {n m o : ℕ} {g : Field} {r : Reported} → SoFar count k at rest (suc n) k' at' rest' xs → CutField k' at' rest' m o g → check_field m o remedy (bytes_of g) ≡ faulty r → (fs : List Bytes) → Left rest fs → length fs ≡ count → check_fields k at (replicate count remedy) fs ≡ faulty r
  one_faulty {n} {m} {o} {g} {r} so c e fs l long = stop (so.whole fs l long)
    where
      stop : {x' : Checked (List ℤ)} → (gs : List Bytes) × Left rest' gs × (length gs ≡ suc n) × (x' ≡ onto xs (check_fields k at' (replicate (suc n) remedy) gs)) → x' ≡ faulty r
      stop ([], s, w, h) = absurd (omega arith)
      stop (f ∷ gs, s, w, h) = h ∙ ap (onto xs) (next_checked (replicate n remedy) so.line s c e)

  pub all_read : SoFar count k at rest 0 k' at' rest' xs → (fs : List Bytes) → Left rest fs → length fs ≡ count → check_fields k at (replicate count remedy) fs ≡ good (map pos xs)
  all_read so fs l long = end (so.whole fs l long)
    where
      end : {x' : Checked (List ℤ)} → (gs : List Bytes) × Left rest' gs × (length gs ≡ 0) × (x' ≡ onto xs (check_fields k at' (replicate 0 remedy) gs)) → x' ≡ good (map pos xs)
      end ([], s, w, h) = h ∙ ap good (append-nil (map pos xs))
      end (f ∷ gs, s, w, h) = absurd (omega arith)

-- a letter, a number and the remedies after them, as `judge` has them
abbrev judging : Checked ℤ → Checked ℤ → Checked (List ℤ) → Checked Order
judging x y r = and_then (and_then x (λ z. and_then (and_then y (λ z'. and_then r (λ zs. good (z' ∷ zs)))) (λ zs. good (z ∷ zs)))) (λ zs. good (order_from Judge zs))

judging_good : (b v : ℕ) (r : Checked (List ℤ)) → judging (good (pos b)) (good (pos v)) r ≡ and_then r (λ zs. good (order_from Judge (pos b ∷ pos v ∷ zs)))
judging_good b v (good zs) = refl
judging_good b v (faulty e) = refl

-- all fields after `judge`: the letter, the visits, and then the remedies
pub judge_checked : {k at m o n' at' m' o' n'' at'' count b v : ℕ} {rest after after' : Bytes} {g g' : Field} →
    CutField k at rest m o g → LeftAfter k at rest n' at' after → check_field m o criterion_letters (bytes_of g) ≡ good (pos b) →
    CutField n' at' after m' o' g' → LeftAfter n' at' after n'' at'' after' → check_field m' o' number (bytes_of g') ≡ good (pos v) →
    (fs : List Bytes) → Left rest fs → at ≡ 2 → length fs ≡ count + 2 →
    (gs : List Bytes) × Left after' gs × (length gs ≡ count) × (check_rest k Judge fs ≡ and_then (check_fields n'' at'' (replicate count remedy) gs) (λ zs. good (order_from Judge (pos b ∷ pos v ∷ zs))))
judge_checked c a e c' a' e' [] l p long = absurd (omega arith)
judge_checked c a e c' a' e' (f ∷ []) l p long = absurd (omega arith)
judge_checked {k} {at} {m} {o} {n'} {at'} {m'} {o'} {n''} {at''} {count} {b} {v} {rest} {after} {after'} {g} {g'} c a e c' a' e' (f ∷ f' ∷ gs) l p long =
    let q = a.place_is in
    let q' = a'.place_is in
    let second : at' ≡ 3 = omega arith in
    let third : at'' ≡ 4 = omega arith in
    let line : n' ≡ k = a.line_is in
    let line' : n'' ≡ k = a'.line_is ∙ line in
    let many : length gs ≡ count = omega arith in
    let more : length (f ∷ f' ∷ gs) - 2 ≡ count = omega arith in
    let l' = next_left rest after f (f' ∷ gs) k at n' at' l a in
    let read : check_field k 2 criterion_letters f ≡ good (pos b) = same_field c k 2 criterion_letters f (f' ∷ gs) refl p l ∙ e in
    let read' : check_field k 3 number f' ≡ good (pos v) = same_field c' k 3 number f' gs line second l' ∙ e' in (
      gs,
      next_left after after' f' gs n' at' n'' at'' l' a',
      many,
      ap (λ x. judging x (check_field k 3 number f') (check_fields k 4 (replicate (length (f ∷ f' ∷ gs) - 2) remedy) gs)) read
          ∙ ap (λ y. judging (good (pos b)) y (check_fields k 4 (replicate (length (f ∷ f' ∷ gs) - 2) remedy) gs)) read'
          ∙ judging_good b v (check_fields k 4 (replicate (length (f ∷ f' ∷ gs) - 2) remedy) gs)
          ∙ ap (λ r. and_then r (λ zs. good (order_from Judge (pos b ∷ pos v ∷ zs))))
          (ap (λ n. check_fields k 4 (replicate n remedy) gs) more ∙ ap (λ i. check_fields k i (replicate count remedy) gs) (sym third) ∙ ap (λ x. check_fields x at'' (replicate count remedy) gs) (sym line')),
    )

-- what is answered of the remedies is answered of all fields
pub judge_stopped : (x : Checked Order) (y : Checked (List ℤ)) (by v : ℤ) (e : Unread) → x ≡ and_then y (λ zs. good (order_from Judge (by ∷ v ∷ zs))) → TableAnswers y (Err e) → CommandAnswers x (Err e)
judge_stopped x y by v (Faulty f) h t = h ∙ ap (λ r. and_then r (λ zs. good (order_from Judge (by ∷ v ∷ zs)))) t
judge_stopped x y by v (NoMemory m) h t = tt

pub by_its_letter : (by : By) → by_letter (letter_of by) ≡ by
by_its_letter Mean = refl
by_its_letter Floor = refl

pub sizes : (xs : List ℕ) → map unsigned_abs (map pos xs) ≡ xs
sizes [] = refl
sizes (x ∷ xs) = ap (λ ys. x ∷ ys) (sizes xs)

pub judge_good : (x : Checked Order) (y : Checked (List ℤ)) (by : By) (v : ℕ) (xs : List ℕ) → x ≡ and_then y (λ zs. good (order_from Judge (pos (letter_of by) ∷ pos v ∷ zs))) → y ≡ good (map pos xs) → x ≡ good (judges by v xs)
judge_good x y by v xs h t = h ∙ ap (λ r. and_then r (λ zs. good (order_from Judge (pos (letter_of by) ∷ pos v ∷ zs)))) t ∙ ap (λ c. good (judges c v (map unsigned_abs (map pos xs)))) (by_its_letter by) ∙ ap (λ ys. good (judges by v ys)) (sizes xs)
