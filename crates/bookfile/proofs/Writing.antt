-- The lines of a file one by one, and all of them in a buffer.
use Rattle.std.proofs.Common.{◌≡◌, ℕ, suc, ◌+◌, ◌-◌, ◌<◌, ◌≤◌, List, [], ◌∷◌, ◌++◌, length, get_or, take, drop, map, ℤ, pos, sym, refl, ap, ◌∙◌, subst, append_assoc, append-nil, zero-add, arith, length-append}
use Rattle.std.specs.List.{concat, enumerate_from}
use Rattle.std.proofs.lemmas.List.{take_more, take_all, get_or_append_left, get_or-append_right, get_or-map, length-map, drop-drop}
use Rattle.std.proofs.lemmas.List.Concat.{concat_is}
use Rattle.std.proofs.lemmas.List.Folds.{concat-append, length-flat_map-take}
use Rattle.std.proofs.lemmas.List.FromFn.{length-enumerate_from, get_or-enumerate_from}
use Rattle.model.specs.Tables.{KeptPast}
use Rattle.books.specs.declared.record.Record.{Record}
use Rattle.books.specs.Entries.{no_record}
use Rattle.fields.specs.Numerals.{Bytes}
use Rattle.fields.specs.Lines.{line}
use Rattle.bookfile.specs.File.{WrittenBook, size_fields, record_lines, worth_lines, render}
use Rattle.bookfile.specs.Writing.{record_line, worth_line, lines_of, BeginsWith}

module _ (b : WrittenBook) where
  abbrev rs : List Bytes
  rs = map record_line b.records

  abbrev ws : List Bytes
  ws = map worth_line (enumerate_from 0 b.worths)

  long_rs : length rs ≡ length b.records
  long_rs = length-map b.records record_line

  long_ws : length ws ≡ length b.worths
  long_ws = length-map (enumerate_from 0 b.worths) worth_line ∙ length-enumerate_from 0 b.worths

  -- how many lines there are
  pub count_of_lines : length (lines_of b) ≡ length b.records + length b.worths + 2
  unfolding lines_of
  count_of_lines = let r = long_rs in let w = long_ws in simp length-append (omega arith)

  -- the first line, the lines of records, those of worths, and the last
  pub first_line : (i : ℕ) → i ≡ 0 → get_or (lines_of b) i [] ≡ line 66 (size_fields b)
  unfolding lines_of
  first_line i q = ap (λ n. get_or (lines_of b) n []) q

  pub record_line_at : (i : ℕ) → 0 < i → i ≤ length b.records → get_or (lines_of b) i [] ≡ record_line (get_or b.records (i - 1) no_record)
  unfolding lines_of
  record_line_at i h l =
      let r = long_rs in
      let q : i ≡ suc (i - 1) = omega arith in
      ap (λ n. get_or (lines_of b) n []) q ∙ get_or_append_left rs _ [] (i - 1) (omega arith) ∙ get_or-map record_line b.records (i - 1) no_record [] (omega arith)

  past_records : (i s : ℕ) → i ≡ suc (length b.records + s) → get_or (lines_of b) i [] ≡ get_or (ws ++ (line 69 [] ∷ [])) s []
  unfolding lines_of
  past_records i s q =
      let at : length b.records + s - length b.records ≡ s = omega arith in
      ap (λ n. get_or (lines_of b) n []) q ∙ get_or-append_right rs _ (length b.records) (length b.records + s) [] long_rs (omega arith) ∙ ap (λ n. get_or (ws ++ (line 69 [] ∷ [])) n []) at

  pub worth_line_at : (i s : ℕ) → i ≡ suc (length b.records + s) → s < length b.worths → get_or (lines_of b) i [] ≡ worth_line (s, get_or b.worths s (pos 0))
  worth_line_at i s q h =
      let w = long_ws in
      past_records i s q
      ∙ get_or_append_left ws _ [] s (omega arith)
      ∙ get_or-map worth_line (enumerate_from 0 b.worths) s (0, pos 0) [] (omega (arith, length-enumerate_from 0 b.worths))
      ∙ ap worth_line (get_or-enumerate_from 0 b.worths s (0, pos 0) h)
      ∙ ap (λ n. worth_line (n, get_or b.worths s (pos 0))) (zero-add s)

  pub last_line : (i : ℕ) → length b.records + length b.worths < i → i < length (lines_of b) → get_or (lines_of b) i [] ≡ line 69 []
  last_line i h l =
      let w = long_ws in
      let all = count_of_lines in
      let none : length b.worths - length b.worths ≡ 0 = omega arith in
      past_records i (length b.worths) (omega arith)
      ∙ get_or-append_right ws (line 69 [] ∷ []) (length b.worths) (length b.worths) [] long_ws (omega arith)
      ∙ ap (λ n. get_or {A = Bytes} (line 69 [] ∷ []) n []) none

concat-records : (es : List Record) → concat (map record_line es) ≡ record_lines es
concat-records [] = refl
concat-records (e ∷ es) = ap (λ bs. record_line e ++ bs) (concat-records es)

concat-worths : (s : ℕ) (zs : List ℤ) → concat (map worth_line (enumerate_from s zs)) ≡ worth_lines s zs
concat-worths s [] = refl
concat-worths s (z ∷ zs) =
    let on : s + 1 ≡ suc s = omega arith in
    ap (λ bs. worth_line (s, z) ++ bs) (concat-worths (s + 1) zs ∙ ap (λ n. worth_lines n zs) on)

-- the lines joined are the file
pub concat-lines_of : (b : WrittenBook) → concat (lines_of b) ≡ render b
unfolding lines_of
concat-lines_of b =
    let B = line 66 (size_fields b) in
    let E = line 69 [] in
    let R = record_lines b.records in
    let W = worth_lines 0 b.worths in
    let joined = concat-append (rs b) (ws b ++ (E ∷ [])) ∙ ap (λ bs. concat (rs b) ++ bs) (concat-append (ws b) (E ∷ [])) in
    ap (λ bs. B ++ bs) (joined ∙ ap (λ bs. bs ++ (concat (ws b) ++ E)) (concat-records b.records) ∙ ap (λ bs. R ++ (bs ++ E)) (concat-worths 0 b.worths) ∙ sym (append_assoc R W E)) ∙ sym (append_assoc B (R ++ W) E)

-- the first i lines joined
unfoldable pub front : WrittenBook → ℕ → Bytes
front b i = concat (take i (lines_of b))

pub front_none : (b : WrittenBook) → front b 0 ≡ []
unfolding front
front_none b = refl

pub front_more : (b : WrittenBook) (i : ℕ) → i < length (lines_of b) → front b (i + 1) ≡ front b i ++ get_or (lines_of b) i []
unfolding front
front_more b i h =
    ap concat (take_more (lines_of b) i [] h) ∙ concat-append (take i (lines_of b)) (get_or (lines_of b) i [] ∷ [])
    ∙ ap (λ bs. concat (take i (lines_of b)) ++ bs) (append-nil (get_or (lines_of b) i []))

pub front_longer : (b : WrittenBook) (i : ℕ) → i < length (lines_of b) → length (front b (i + 1)) ≡ length (front b i) + length (get_or (lines_of b) i [])
front_longer b i h = ap length (front_more b i h) ∙ length-append (front b i) (get_or (lines_of b) i [])

pub front_all : (b : WrittenBook) (i : ℕ) → length (lines_of b) ≤ i → front b i ≡ render b
unfolding front
front_all b i h = ap concat (take_all i (lines_of b) h) ∙ concat-lines_of b

-- with one line more it is no longer than the file
pub front_within : (b : WrittenBook) (i : ℕ) → i < length (lines_of b) → length (front b i) + length (get_or (lines_of b) i []) ≤ length (render b)
unfolding front
front_within b i h =
    let e = concat_is (take i (lines_of b)) in
    let f = ap length (sym (concat-lines_of b) ∙ concat_is (lines_of b)) in
    let g = length-flat_map-take (λ (bs : Bytes). bs) (lines_of b) i [] h in
    omega (arith, ap length e)

-- a buffer that begins with no line, with a line more, with all lines
pub begins_none : (b : WrittenBook) (u : Bytes) → BeginsWith (front b 0) 0 u u
begins_none b u = rw (front_none b) (record { long = refl; begins = refl; kept = record { long = refl; past = refl } })

pub begins_more : (b : WrittenBook) (i n n' : ℕ) (x u v w : Bytes) → i < length (lines_of b) → x ≡ get_or (lines_of b) i [] → BeginsWith (front b i) n u v → n' ≡ n + length x → take n' w ≡ take n v ++ x → KeptPast n' v w → BeginsWith (front b (i + 1)) n' u w
begins_more b i n n' x u v w l q h at new k =
    let more : front b (i + 1) ≡ front b i ++ x = front_more b i l ∙ ap (λ y. front b i ++ y) (sym q) in
    let on : (y : Bytes) → drop n' y ≡ drop (length x) (drop n y) = λ y. ap (λ m. drop m y) at ∙ sym (drop-drop (length x) n y) in
    rw more (record {
      long = at ∙ ap (λ m. m + length x) h.long ∙ sym (length-append (front b i) x);
      begins = new ∙ ap (λ y. y ++ x) h.begins;
      kept = record { long = k.long ∙ h.kept.long; past = k.past ∙ on v ∙ ap (drop (length x)) h.kept.past ∙ sym (on u) };
    })

pub begins_all : (b : WrittenBook) (i n : ℕ) (u v : Bytes) → length (lines_of b) ≤ i → BeginsWith (front b i) n u v → BeginsWith (render b) n u v
begins_all b i n u v l h = subst (λ bs. BeginsWith bs n u v) (front_all b i l) h
