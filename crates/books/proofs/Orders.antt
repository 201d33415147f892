-- Records that rise one after another rise throughout.
use Rattle.std.proofs.Common.{◌≡◌, ℕ, zero, suc, ◌<◌, ◌≤◌, Bool, true, false, ◌&&◌, ◌||◌, ltb, eqb, List, length, get_or, refl, sym, ap, ◌∙◌, subst, ⊎_elim, arith}
use Rattle.std.proofs.lemmas.Bool.{cases_lt, ltb-true, ltb-false, lt-ltb}
use Rattle.std.proofs.lemmas.Bool.Decides.{nat_tests}
use Rattle.std.proofs.lemmas.List.{get_or_default}
use Rattle.std.specs.List.Sorted.{IsPartitionedBy, IsPartitionPoint}
use Rattle.books.specs.declared.record.Record.{Record}
use Rattle.books.specs.Entries.{RecordFits, Rising, AllPlaced, StandBefore, rank, key, no_record, KeysRise}
use Rattle.books.specs.Making.{Entered}

-- within the largest sizes the order of records is that of their keys, there and back
pub rising_key : (d e : Record) → (d.remedy < 8) × (d.next < 32) → (e.remedy < 8) × (e.next < 32) → Rising d e → key d < key e
rising_key d e (dr, dn) (er, en) h = grind arith

pub key_rising : (d e : Record) → (d.remedy < 8) × (d.next < 32) → (e.remedy < 8) × (e.next < 32) → key d < key e → Rising d e
key_rising d e (dr, dn) (er, en) h = grind arith

pub placed_well : {c r parts : ℕ} {e : Record} → c ≤ 32 → r ≤ 8 → RecordFits c r parts e → (e.remedy < 8) × (e.next < 32)
placed_well cl rl f = let a = f.some_remedy in let b = f.some_next in (omega arith, omega arith)

pub keys_rise : (c r parts : ℕ) (es : List Record) → c ≤ 32 → r ≤ 8 → ((i : ℕ) → i < length es → Entered c r parts es i) → KeysRise es
keys_rise c r parts es cl rl all i zero l m = absurd (omega arith)
keys_rise c r parts es cl rl all i (suc j) l m =
    let k : j < length es = omega arith in
    let step = rising_key (get_or es j no_record) (get_or es (suc j) no_record) (placed_well cl rl (all j k).0) (placed_well cl rl (all (suc j) m).0) ((all (suc j) m).1 j refl) in
    ⊎_elim
    (λ b. let u = keys_rise c r parts es cl rl all i j b k in omega arith)
    (λ b. let same : j ≡ i = omega arith in let P : ℕ → Type 0 = λ n. key (get_or es n no_record) < key (get_or es (suc j) no_record) in subst P same step)
    (cases_lt i j)

-- the record stands before the place
abbrev pub precedes : (s x j : ℕ) → Record → Bool
precedes s x j e = ltb e.condition s || (eqb e.condition s && (ltb e.remedy x || (eqb e.remedy x && ltb e.next j)))

precedes_rank : (e : Record) (s x j : ℕ) → x < 8 → j < 32 → e.remedy < 8 → e.next < 32 → precedes s x j e ≡ ltb (key e) (rank s x j)
precedes_rank e s x j xl jl rl nl = grind (arith, nat_tests)

module _ (es : List Record) (placed : AllPlaced 32 8 es) (rise : KeysRise es) (s x j : ℕ) (xl : x < 8) (jl : j < 32) where
  precedes_at : (i : ℕ) (d : Record) → i < length es → precedes s x j (get_or es i d) ≡ ltb (key (get_or es i no_record)) (rank s x j)
  precedes_at i d l =
      let p = placed i l in
      ap (precedes s x j) (get_or_default es i d no_record l) ∙ precedes_rank (get_or es i no_record) s x j xl jl p.1 (p.2)

  -- those before the place come first
  pub precede_first : IsPartitionedBy (precedes s x j) es
  precede_first i k d l m e =
      let a : key (get_or es k no_record) < rank s x j = ltb-true _ _ (sym (precedes_at k d m) ∙ e) in
      let up : key (get_or es i no_record) ≤ key (get_or es k no_record) = ⊎_elim (λ (b : i < k). omega (arith, rise i k b m)) (λ (b : k ≤ i). let same : i ≡ k = omega arith in omega (arith, ap (λ (n : ℕ). key (get_or es n no_record)) same)) (cases_lt i k) in
      precedes_at i d (omega arith) ∙ lt-ltb _ _ (omega arith)

  -- where they end
  pub stand_before : (m : ℕ) → m ≤ length es → IsPartitionPoint (λ e. precedes s x j e ≡ true) (λ e. precedes s x j e ≡ false) es m → StandBefore es (rank s x j) m
  stand_before m l point = record {
    within = l;
    below = λ i a. ltb-true _ _ (sym (precedes_at i no_record (omega arith)) ∙ point.0 i no_record (omega arith) a);
    above = λ i a b. ltb-false _ _ (sym (precedes_at i no_record b) ∙ point.1 i no_record a b);
  }
