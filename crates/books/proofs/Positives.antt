-- The records of a table's positive shares are in order and within the limits.
use Rattle.std.proofs.Common.{ℕ, zero, suc, ◌<◌, ◌≤◌, List, [], ◌∷◌, ◌++◌, length, get_or, ℤ, refl, subst, inl, inr, arith}
use lib.Arith.{digits_lt}
use Rattle.std.specs.List.{All}
use Rattle.std.proofs.lemmas.List.Elements.{All-nil, All-cons}
use Rattle.books.specs.declared.record.Record.{Record}
use Rattle.books.specs.Entries.{SmallMoney, RecordFits, Rising, no_record, rank, key}
use Rattle.books.specs.Tables.{spot}
use Rattle.books.specs.Kinds.{in_turn, positive, positive_records, PositivesMakeAList}
use Rattle.books.proofs.Orders.{key_rising, placed_well}
use Rattle.books.proofs.Places.{in_first, in_third}
use Rattle.books.proofs.Turns.{all_turn}

abbrev AllFit : (c r parts : ℕ) → List Record → Type 0
AllFit c r parts = All (RecordFits c r parts)

-- keys rise from lo on, and stay below hi
abbrev Between : (lo hi : ℕ) → List Record → Type 0
Between lo hi [] = lo ≤ hi
Between lo hi (e ∷ es) = (lo ≤ key e) × Between (suc (key e)) hi es

later : (lo lo' hi : ℕ) (es : List Record) → lo ≤ lo' → Between lo' hi es → Between lo hi es
later lo lo' hi [] l b = omega arith
later lo lo' hi (e ∷ es) l b = (let m = b.0 in omega arith, b.1)

wider : (lo hi hi' : ℕ) (es : List Record) → hi ≤ hi' → Between lo hi es → Between lo hi' es
wider lo hi hi' [] l b = omega arith
wider lo hi hi' (e ∷ es) l b = (b.0, wider (suc (key e)) hi hi' es l b.1)

between_join : (lo middle hi : ℕ) (es ds : List Record) → Between lo middle es → Between middle hi ds → Between lo hi (es ++ ds)
between_join lo middle hi [] ds a b = later lo middle hi ds a b
between_join lo middle hi (e ∷ es) ds a b = (a.0, between_join (suc (key e)) middle hi es ds a.1 b)

between_turn : (n : ℕ) (g : ℕ → ℕ) (f : ℕ → List Record) → ((k : ℕ) → k < n → Between (g k) (g (suc k)) (f k)) → Between (g 0) (g n) (in_turn n f)
between_turn zero g f h = omega arith
between_turn (suc n) g f h = between_join (g 0) (g n) (g (suc n)) (in_turn n f) (f n) (between_turn n g f (λ k l. h k (omega arith))) (h n (omega arith))

between_step : (lo hi : ℕ) (es : List Record) (k : ℕ) → Between lo hi es → suc k < length es → key (get_or es k no_record) < key (get_or es (suc k) no_record)
between_step lo hi [] k b l = absurd (omega arith)
between_step lo hi (e ∷ []) k b l = absurd (omega arith)
between_step lo hi (e ∷ (d ∷ es)) zero b l = b.1.0
between_step lo hi (e ∷ (d ∷ es)) (suc k) b l = between_step (suc (key e)) hi (d ∷ es) k b.1 (omega arith)

positive_fits : (c r parts s x j n : ℕ) (z : ℤ) → s < c → x < r → j < c → n ≤ parts → SmallMoney z → AllFit c r parts (positive s x j n z)
positive_fits c r parts s x j zero z a b d l m = All-nil _
positive_fits c r parts s x j (suc n) z a b d l m =
    All-cons (RecordFits c r parts) (record { condition = s; remedy = x; next = j; share = suc n; amount = z }) [] (record { some_condition = a; some_remedy = b; some_next = d; some_share = omega arith; few_share = l; small_amount = m }) (All-nil (RecordFits c r parts))

positive_between : (s x j n : ℕ) (z : ℤ) → Between (rank s x j) (rank s x (suc j)) (positive s x j n z)
positive_between s x j zero z = omega arith
positive_between s x j (suc n) z = (omega arith, omega arith)

pub positives_make_a_list : PositivesMakeAList
positives_make_a_list c r parts shares amounts worths (shaped, fits) =
    let sizes = shaped.0 in
    let es = positive_records c r shares amounts in
    let fit : AllFit c r parts es = all_turn (RecordFits c r parts) c _ (λ s a. all_turn (RecordFits c r parts) r _ (λ x b. all_turn (RecordFits c r parts) c _ (λ j d.
    let l = digits_lt (digits_lt a b) d in
    let m : spot c r s x j < length shares = omega arith in
    let n : spot c r s x j < length amounts = omega arith in
    positive_fits c r parts s x j _ _ a b d ((fits 1 (spot c r s x j) (inl (refl, m))).0 refl) ((fits 2 (spot c r s x j) (inr (inl (refl, n)))).1 refl)))) in
    let order : Between 0 (rank c 0 0) es = between_turn c (λ s. rank s 0 0) _ (λ s a. wider (rank s 0 0) (rank s r 0) (rank (suc s) 0 0) _ (omega (arith, sizes.few_remedies)) (between_turn r (λ x. rank s x 0) _ (λ x b. wider (rank s x 0) (rank s x c) (rank s (suc x) 0) _ (omega (arith, sizes.few_conditions)) (between_turn c (λ j. rank s x j) _ (λ j d. positive_between s x j _ _))))) in (
      (sizes, shaped.3),
      λ t i h. (
        (λ e. let l = in_first _ _ _ t i h e in (
          fit i no_record l,
          λ k q.
              let m : suc k < length es = omega arith in
              let n : k < length es = omega arith in
              let P : ℕ → Type 0 = λ i'. Rising (get_or es k no_record) (get_or es i' no_record) in
              subst P q (key_rising (get_or es k no_record) (get_or es (suc k) no_record) (placed_well sizes.few_conditions sizes.few_remedies (fit k no_record n)) (placed_well sizes.few_conditions sizes.few_remedies (fit (suc k) no_record m)) (between_step 0 (rank c 0 0) es k order m)),
        )),
        (λ e. (fits 3 i (inr (inr (refl, in_third _ _ _ t i h e)))).2 refl),
      ),
    )
