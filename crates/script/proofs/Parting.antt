-- Going through an input line by line, up to the end of the book's part.
use Rattle.std.proofs.Common.{◌≡◌, ℕ, suc, ◌+◌, ◌-◌, ◌^◌, ◌<◌, ◌≤◌, Bool, true, false, cond, List, [], ◌∷◌, ◌++◌, length, take, drop, sym, refl, ap, ◌∙◌, subst, append_assoc, append-nil, add-one, arith, length-append}
use Rattle.std.proofs.Math.Seq.{take-append_seam, drop-append_seam}
use Rattle.std.specs.Prelude.{◌==◌, nat_eq}
use Rattle.std.specs.List.{All, starts_with}
use Rattle.std.proofs.lemmas.Bool.Decides.{nat_tests}
use Rattle.fields.specs.Numerals.{Bytes}
use Rattle.fields.specs.Lines.{split, joined}
use Rattle.fields.specs.Checking.{reported}
use Rattle.fields.specs.Checking.Checked.{faulty}
use Rattle.fields.specs.Views.{LineCut}
use Rattle.fields.proofs.Splitting.{Other, joined_split, split_clear, split_line}
use Rattle.script.specs.Forms.{check_order}
use Rattle.script.specs.Parts.{Said, said, ends_book, book_lines, book_part, newlines, said_lines, lines_after, script_after, script_of, script_from}

-- newlines of bytes put together, and of a line that is ended
newlines_append : (xs ys : Bytes) → newlines (xs ++ ys) ≡ newlines xs + newlines ys
newlines_append [] ys = omega arith
newlines_append (x ∷ xs) ys = either (x == 10) (split 10 (xs ++ ys)) (split 10 xs) (newlines ys) (newlines_append xs ys)
  where
    either : (b : Bool) (r r' : Bytes × List Bytes) (n : ℕ) → length r.1 ≡ length r'.1 + n → length (cond {A = Bytes × List Bytes} b ([], r.0 ∷ r.1) (x ∷ r.0, r.1)).1 ≡ length (cond {A = Bytes × List Bytes} b ([], r'.0 ∷ r'.1) (x ∷ r'.0, r'.1)).1 + n
    either true r r' n h = omega arith
    either false r r' n h = h

one_newline : {k n : ℕ} {rest t after : Bytes} → LineCut k rest n t after → newlines (t ++ (10 ∷ [])) ≡ 1
one_newline {k} {n} {rest} {t} {after} c = ap (λ p. length p.1) (split_line 10 t [] (subst (All (Other 10)) (sym c.first) (split_clear 10 rest).0))

-- the lines of these bytes that are left, from line k on, have the end of the book's part before them or among them
pub record Ahead (input : Bytes) (k : ℕ) (rest : Bytes) : Type 0 where
  pub front : Bytes
  pub whole : input ≡ front ++ rest
  pub book : book_part input ≡ front ++ book_part rest
  pub script : script_of input ≡ script_after k rest
  pub few : k + length rest ≤ length input + 1
  pub lines : k ≡ 1 + newlines front

pub at_first : (input : Bytes) → Ahead input 1 input
at_first input = record { front = []; whole = refl; book = refl; script = refl; few = omega arith; lines = refl }

-- a line that is cut off, as the definitions see it
cut_book : {k n : ℕ} {rest t after : Bytes} → LineCut k rest n t after → book_part rest ≡ cond (ends_book t) (t ++ (10 ∷ [])) (t ++ (10 ∷ book_part after))
cut_book {k} {n} {rest} {t} {after} c = ap (λ l. book_lines l (split 10 rest).1) (sym c.first) ∙ ap (book_lines t) c.later

cut_script : {k n : ℕ} {rest t after : Bytes} → LineCut k rest n t after → script_after k rest ≡ cond (ends_book t) (script_from (suc k) after) (script_after (suc k) after)
cut_script {k} {n} {rest} {t} {after} c = ap (λ l. lines_after k l (split 10 rest).1) (sym c.first) ∙ ap (lines_after k t) c.later

front_of : {input : Bytes} {k n : ℕ} {rest t after : Bytes} (a : Ahead input k rest) → LineCut k rest n t after → input ≡ (a.front ++ (t ++ (10 ∷ []))) ++ after
front_of {input} {k} {n} {rest} {t} {after} a c = a.whole ∙ ap (λ bs. a.front ++ bs) c.whole ∙ regroup a.front t after
  where
    regroup : (xs ys zs : Bytes) → xs ++ (ys ++ (10 ∷ zs)) ≡ (xs ++ (ys ++ (10 ∷ []))) ++ zs
    regroup xs ys zs = simp append_assoc

next_line : {input : Bytes} {k n : ℕ} {rest t after : Bytes} (a : Ahead input k rest) → LineCut k rest n t after → k + 1 ≡ 1 + newlines (a.front ++ (t ++ (10 ∷ [])))
next_line {input} {k} {n} {rest} {t} {after} a c = omega (arith, a.lines, newlines_append a.front (t ++ (10 ∷ [])), one_newline c)

pub past_line : {input : Bytes} {k n : ℕ} {rest t after : Bytes} → Ahead input k rest → LineCut k rest n t after → ends_book t ≡ false → Ahead input (k + 1) after
past_line {input} {k} {n} {rest} {t} {after} a c no_end =
    let few = a.few in
    let shorter = c.shorter in
    let here : book_part rest ≡ (t ++ (10 ∷ [])) ++ book_part after = cut_book c ∙ ap (λ b. cond b (t ++ (10 ∷ [])) (t ++ (10 ∷ book_part after))) no_end ∙ sym (append_assoc t (10 ∷ []) (book_part after)) in
    record {
      front = a.front ++ (t ++ (10 ∷ []));
      whole = front_of a c;
      book = a.book ∙ ap (λ bs. a.front ++ bs) here ∙ sym (append_assoc a.front (t ++ (10 ∷ [])) (book_part after));
      script = a.script ∙ cut_script c ∙ ap (λ b. cond b (script_from (suc k) after) (script_after (suc k) after)) no_end ∙ ap (λ i. script_after i after) (sym (add-one k));
      few = omega arith;
      lines = next_line a c;
    }

-- a line that ends the book's part
pub last_of_book : {input : Bytes} {k n : ℕ} {rest t after : Bytes} → Ahead input k rest → LineCut k rest n t after → ends_book t ≡ true → (take (length input - length after) input ≡ book_part input) × (script_from (k + 1) (drop (length input - length after) input) ≡ script_of input) × (k + 1 ≡ 1 + newlines (take (length input - length after) input))
last_of_book {input} {k} {n} {rest} {t} {after} a c end =
    let front = a.front ++ (t ++ (10 ∷ [])) in
    let whole = front_of a c in
    let book : book_part input ≡ front = a.book ∙ ap (λ bs. a.front ++ bs) (cut_book c ∙ ap (λ b. cond b (t ++ (10 ∷ [])) (t ++ (10 ∷ book_part after))) end) in
    let script : script_of input ≡ script_from (k + 1) after = a.script ∙ cut_script c ∙ ap (λ b. cond b (script_from (suc k) after) (script_after (suc k) after)) end ∙ ap (λ i. script_from i after) (sym (add-one k)) in
    let long : length input - length after ≡ length front = omega (arith, ap length whole, length-append front after) in
    let taken : take (length input - length after) input ≡ front = ap (λ n. take n input) long ∙ ap (take (length front)) whole ∙ take-append_seam front after in (
      taken ∙ sym book,
      ap (script_from (k + 1)) (ap (λ n. drop n input) long ∙ ap (drop (length front)) whole ∙ drop-append_seam front after) ∙ sym script,
      next_line a c ∙ ap (λ bs. 1 + newlines bs) (sym taken),
    )

-- a line that is not ended is all that is left
last_line : (rest : Bytes) → (split 10 rest).1 ≡ [] → (split 10 rest).0 ≡ rest
last_line rest none = ap (joined 10 (split 10 rest).0) (sym none) ∙ joined_split 10 rest

-- no line ends it
pub none_of_script : {input : Bytes} {k : ℕ} {rest : Bytes} → Ahead input k rest → (split 10 rest).1 ≡ [] → (input ≡ book_part input) × (script_from k [] ≡ script_of input) × (k ≡ 1 + newlines input)
none_of_script {input} {k} {rest} a none =
    let l = (split 10 rest).0 in (
      a.whole ∙ ap (λ bs. a.front ++ bs) (sym (last_line rest none) ∙ ap (book_lines l) (sym none)) ∙ sym a.book,
      sym (a.script ∙ ap (lines_after k l) none),
      omega (arith, a.lines, ap newlines a.whole, newlines_append a.front rest, ap length none),
    )

pub begins : (t : Bytes) (b : Bool) → b ≡ starts_with nat_eq t (69 ∷ []) → ends_book t ≡ b
begins [] b e = sym e
begins (x ∷ xs) b e = grind (arith, nat_tests)

-- what the lines so far say, and those left from line k on, is what all say
pub record SaidOn (all : List Said) (k : ℕ) (rest : Bytes) (so_far : List Said) : Type 0 where
  pub same : all ≡ so_far ++ script_from k rest
  pub few : k + length rest < 2 ^ 64

pub one_said : {all : List Said} {k n : ℕ} {rest t after : Bytes} {so_far : List Said} (x : Said) → SaidOn all k rest so_far → LineCut k rest n t after → x ≡ said k (check_order k t) → SaidOn all (k + 1) after (so_far ++ (x ∷ []))
one_said {all} {k} {n} {rest} {t} {after} {so_far} x s c e =
    let few = s.few in
    let shorter = c.shorter in
    let here : script_from k rest ≡ x ∷ script_from (k + 1) after = ap (λ l. said_lines k l (split 10 rest).1) (sym c.first) ∙ ap (said_lines k t) c.later ∙ ap (λ y. y ∷ script_from (suc k) after) (sym e) ∙ ap (λ i. x ∷ script_from i after) (sym (add-one k)) in
    record { same = s.same ∙ ap (λ ys. so_far ++ ys) here ∙ sym (append_assoc so_far (x ∷ []) (script_from (k + 1) after)); few = omega arith }

pub none_unended : {all : List Said} {k : ℕ} (rest : Bytes) {so_far : List Said} → SaidOn all k rest so_far → length rest ≡ 0 → all ≡ so_far
none_unended [] {so_far} s e = s.same ∙ append-nil so_far
none_unended (x ∷ xs) s e = absurd (omega arith)

pub one_unended : {all : List Said} {k : ℕ} {rest : Bytes} {so_far : List Said} → SaidOn all k rest so_far → (split 10 rest).1 ≡ [] → (length rest ≡ 0 → ⊥) → all ≡ so_far ++ (said k (faulty (reported 26 k 0)) ∷ [])
one_unended {all} {k} {rest} {so_far} s none some = s.same ∙ ap (λ ys. so_far ++ ys) (ap (λ l. said_lines k l (split 10 rest).1) (last_line rest none) ∙ ap (said_lines k rest) none ∙ alone rest some)
  where
    alone : (l : Bytes) → (length l ≡ 0 → ⊥) → said_lines k l [] ≡ said k (faulty (reported 26 k 0)) ∷ []
    alone [] h = absurd (h refl)
    alone (x ∷ xs) h = refl
