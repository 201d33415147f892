-- The book's part of an input goes up to and with its first line that begins with E.
use Rattle.std.proofs.Common.{◌≡◌, Bool, true, false, cond, ◌⊎◌, List, [], ◌∷◌, ◌++◌, sym, refl, ap, ◌∙◌, subst, inl, inr, append_assoc}
use Rattle.std.specs.List.{All}
use Rattle.std.proofs.lemmas.List.Elements.{All-nil, All-cons, All-head, All-tail, All-from_get_or}
use Rattle.std.proofs.lemmas.Bool.{eqb-true, false_from_ne_true, both_ways}
use Rattle.fields.specs.Numerals.{Bytes}
use Rattle.fields.specs.Lines.{split, joined, Without}
use Rattle.fields.proofs.Splitting.{Other, joined_split, split_clear, split_line, split_none}
use Rattle.script.specs.Parts.{ends_book, book_lines, book_part}
use Rattle.script.specs.Laws.{ended, BeginsWithE, PlainLines, EndsWithE, HasNoE, PartsAreExact}

begins_e : (l : Bytes) → ends_book l ≡ true → BeginsWithE l
begins_e [] h = absurd cc
begins_e (x ∷ xs) h = (xs, ap (λ y. y ∷ xs) (eqb-true x 69 h))

others : (l : Bytes) → Without 10 l → All (Other 10) l
others l w = All-from_get_or (Other 10) l 0 w

-- what follows an ended line, as the book's part has it
part_after : (l bs : Bytes) → Without 10 l → book_part (l ++ (10 ∷ bs)) ≡ cond (ends_book l) (l ++ (10 ∷ [])) (l ++ (10 ∷ book_part bs))
part_after l bs w = ap (λ p. book_lines p.0 p.1) (split_line 10 l bs (others l w))

past_plain : (ls : List Bytes) (rest : Bytes) → PlainLines ls → book_part (ended ls ++ rest) ≡ ended ls ++ book_part rest
past_plain [] rest p = refl
past_plain (l ∷ ls) rest p =
    let no_e = false_from_ne_true (ends_book l) (λ t. All-head (λ l. ¬ BeginsWithE l) l ls p.no_e (begins_e l t)) in
    let more : PlainLines ls = record { no_newlines = All-tail (Without 10) l ls p.no_newlines; no_e = All-tail (λ l. ¬ BeginsWithE l) l ls p.no_e } in
    ap book_part (append_assoc l (10 ∷ ended ls) rest)
    ∙ part_after l (ended ls ++ rest) (All-head (Without 10) l ls p.no_newlines)
    ∙ ap (λ b. cond b (l ++ (10 ∷ [])) (l ++ (10 ∷ book_part (ended ls ++ rest)))) no_e
    ∙ ap (λ bs. l ++ (10 ∷ bs)) (past_plain ls rest more)
    ∙ sym (append_assoc l (10 ∷ ended ls) (book_part rest))

up_to_e : (input book script : Bytes) → book ++ script ≡ input → EndsWithE book → book ≡ book_part input
up_to_e input book script whole e =
    let ls = e.lines in let l = e.last in
    let text : input ≡ ended ls ++ (l ++ (10 ∷ script)) = sym whole ∙ ap (λ bs. bs ++ script) e.text ∙ append_assoc (ended ls) (l ++ (10 ∷ [])) script ∙ ap (λ bs. ended ls ++ bs) (append_assoc l (10 ∷ []) script) in
    e.text ∙ sym (ap book_part text ∙ past_plain ls (l ++ (10 ∷ script)) e.plain ∙ ap (λ bs. ended ls ++ bs) (part_after l script e.clear ∙ ap (λ b. cond b (l ++ (10 ∷ [])) (l ++ (10 ∷ book_part script))) (ap ends_book e.begins.1)))

without_e : (input : Bytes) → HasNoE input → input ≡ book_part input
without_e input e =
    let ls = e.lines in
    e.text ∙ sym (ap book_part e.text ∙ past_plain ls e.rest e.plain ∙ ap (λ bs. ended ls ++ bs) (ap (λ p. book_lines p.0 p.1) (split_none 10 e.rest (others e.rest e.clear))))

plain_more : (l : Bytes) (ls : List Bytes) → All (Other 10) l → ends_book l ≡ false → PlainLines ls → PlainLines (l ∷ ls)
plain_more l ls a h p = record {
  no_newlines = All-cons (Without 10) l ls (λ i q. a i 0 q) p.no_newlines;
  no_e = All-cons (λ l. ¬ BeginsWithE l) l ls (λ e. both_ways (ends_book l) h (ap ends_book e.1)) p.no_e;
}

abbrev Divided : Bytes → Bytes → Type 0
Divided input book = EndsWithE book ⊎ (HasNoE input × (book ≡ input))

no_lines : PlainLines []
no_lines = record { no_newlines = All-nil (Without 10); no_e = All-nil (λ l. ¬ BeginsWithE l) }

at_line : (l : Bytes) → All (Other 10) l → ends_book l ≡ true → EndsWithE (l ++ (10 ∷ []))
at_line l a h = record { lines = []; last = l; plain = no_lines; clear = λ i q. a i 0 q; begins = begins_e l h; text = refl }

line_before : (l bs book : Bytes) → All (Other 10) l → ends_book l ≡ false → Divided bs book → Divided (l ++ (10 ∷ bs)) (l ++ (10 ∷ book))
line_before l bs book a h (inl e) = inl (record { lines = l ∷ e.lines; last = e.last; plain = plain_more l e.lines a h e.plain; clear = e.clear; begins = e.begins; text = ap (λ x. l ++ (10 ∷ x)) e.text ∙ sym (append_assoc l (10 ∷ ended e.lines) (e.last ++ (10 ∷ []))) })
line_before l bs book a h (inr (e, s)) = inr (record { lines = l ∷ e.lines; rest = e.rest; plain = plain_more l e.lines a h e.plain; clear = e.clear; text = ap (λ x. l ++ (10 ∷ x)) e.text ∙ sym (append_assoc l (10 ∷ ended e.lines) e.rest) }, ap (λ x. l ++ (10 ∷ x)) s)

divided : (l : Bytes) (ls : List Bytes) → All (Other 10) l → All (All (Other 10)) ls → Divided (joined 10 l ls) (book_lines l ls)
divided l [] a b = inr (record { lines = []; rest = l; plain = no_lines; clear = λ i q. a i 0 q; text = refl }, refl)
divided l (l' ∷ ls) a b = from (ends_book l) refl (divided l' ls (All-head (All (Other 10)) l' ls b) (All-tail (All (Other 10)) l' ls b))
  where
    from : (e : Bool) → ends_book l ≡ e → Divided (joined 10 l' ls) (book_lines l' ls) → Divided (l ++ (10 ∷ joined 10 l' ls)) (cond e (l ++ (10 ∷ [])) (l ++ (10 ∷ book_lines l' ls)))
    from true h d = inl (at_line l a h)
    from false h d = line_before l (joined 10 l' ls) (book_lines l' ls) a h d

pub parts_are_exact_lem : PartsAreExact
parts_are_exact_lem input book script whole = (
  λ e. let c = split_clear 10 input in subst (λ b. Divided input b) (sym e) (subst (λ x. Divided x (book_part input)) (joined_split 10 input) (divided (split 10 input).0 (split 10 input).1 c.0 c.1)),
  elim [ inl e ↦ up_to_e input book script whole e | inr p ↦ p.1 ∙ without_e input p.0 ],
)
