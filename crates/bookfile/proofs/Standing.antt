-- What stands of a book after some of its lines.
use Rattle.std.proofs.Common.{◌≡◌, ℕ, suc, ◌+◌, ◌-◌, ◌<◌, ◌≤◌, true, ◌&&◌, ◌||◌, eqb, ltb, ◌⊎◌, List, [], ◌∷◌, ◌++◌, length, get_or, ℤ, pos, sym, refl, ◌∙◌, subst, inl, inr, ⊎_elim, arith, length-append}
use lib.ListN.{get_or-append, replicate}
use lib.Seq.{get_or_at}
use Rattle.std.specs.List.{All}
use Rattle.std.proofs.lemmas.List.{length-replicate}
use Rattle.std.proofs.lemmas.List.Elements.{All-replicate, All-append, All-push, All-from_get_or}
use Rattle.std.proofs.lemmas.Bool.{ltb-true, eqb-true, eq-eqb, lt-ltb, and_parts, and_from, or_left, or_right, or_cases, cases_eq, cases_lt}
use Rattle.books.specs.declared.record.Record.{Record}
use Rattle.books.specs.Alike.{SizesFit}
use Rattle.books.specs.Entries.{SmallMoney, RecordFits, Rising, no_record}
use Rattle.books.specs.Making.{Entered, InTable, ListEntryFits}
use Rattle.bookfile.specs.File.{WrittenBook}
use Rattle.bookfile.specs.FileFaults.{LawfulBook, more_worths, Begun}
use Rattle.bookfile.specs.Reading.{rises, rises_after, plus_record, plus_worth}

-- every record and worth that stands keeps its limits
pub record SoundBook (b : WrittenBook) : Type 0 where
  pub sizes : SizesFit b.conditions b.remedies b.parts
  pub entries : (i : ℕ) → i < length b.records → Entered b.conditions b.remedies b.parts b.records i
  pub smalls : All SmallMoney b.worths
  pub few : length b.worths ≤ b.conditions

-- the record rises above the last one, if there is one
abbrev pub AboveLast : List Record → Record → Type 0
AboveLast es e = (k : ℕ) → suc k ≡ length es → Rising (get_or es k no_record) e

rises_from : (d e : Record) → Rising d e → rises d e ≡ true
rises_from d e (inl h) = or_left (ltb d.condition e.condition) _ (lt-ltb d.condition e.condition h)
rises_from d e (inr (q, inl h)) = or_right (ltb d.condition e.condition) _ (and_from (eqb d.condition e.condition) _ (eq-eqb d.condition e.condition q) (or_left (ltb d.remedy e.remedy) _ (lt-ltb d.remedy e.remedy h)))
rises_from d e (inr (q, inr (u, h))) = or_right (ltb d.condition e.condition) _ (and_from (eqb d.condition e.condition) _ (eq-eqb d.condition e.condition q) (or_right (ltb d.remedy e.remedy) _ (and_from (eqb d.remedy e.remedy) _ (eq-eqb d.remedy e.remedy u) (lt-ltb d.next e.next h))))

rises_to : (d e : Record) → rises d e ≡ true → Rising d e
rises_to d e h = ⊎_elim (λ a. inl (ltb-true d.condition e.condition a)) (λ a. let b = and_parts (eqb d.condition e.condition) (ltb d.remedy e.remedy || (eqb d.remedy e.remedy && ltb d.next e.next)) a in inr (eqb-true d.condition e.condition b.0, ⊎_elim (λ u. inl (ltb-true d.remedy e.remedy u)) (λ u. let v = and_parts (eqb d.remedy e.remedy) (ltb d.next e.next) u in inr (eqb-true d.remedy e.remedy v.0, ltb-true d.next e.next v.1)) (or_cases (ltb d.remedy e.remedy) (eqb d.remedy e.remedy && ltb d.next e.next) b.1))) (or_cases (ltb d.condition e.condition) (eqb d.condition e.condition && (ltb d.remedy e.remedy || (eqb d.remedy e.remedy && ltb d.next e.next))) h)

pub above_last : (es : List Record) (e : Record) → AboveLast es e → rises_after es e ≡ true
above_last es e h = ⊎_elim (λ q. or_left (eqb (length es) 0) _ (eq-eqb (length es) 0 q)) (λ q. or_right (eqb (length es) 0) _ (rises_from (get_or es (length es - 1) no_record) e (h (length es - 1) (omega arith)))) (cases_eq (length es) 0)

pub last_below : (es : List Record) (e : Record) → rises_after es e ≡ true → AboveLast es e
last_below es e up k u =
    let last : length es - 1 ≡ k = omega arith in
    subst (λ j. Rising (get_or es j no_record) e) last (⊎_elim (λ z. absurd (let y = eqb-true (length es) 0 z in omega arith)) (rises_to (get_or es (length es - 1) no_record) e) (or_cases (eqb (length es) 0) (rises (get_or es (length es - 1) no_record) e) up))

-- one record more, one worth more
entered_more : (c r p : ℕ) (es : List Record) (e : Record) → ((i : ℕ) → i < length es → Entered c r p es i) → RecordFits c r p e → AboveLast es e → (i : ℕ) → (i < length es) ⊎ (length es ≤ i) → i < suc (length es) → Entered c r p (es ++ (e ∷ [])) i
entered_more c r p es e h g up i (inl lt) q =
    let f = h i lt in
    let s = sym (get_or-append es (e ∷ []) no_record i lt) in
    (subst (RecordFits c r p) s f.0, λ k u. subst (λ x. Rising x (get_or (es ++ (e ∷ [])) i no_record)) (sym (get_or-append es (e ∷ []) no_record k (omega arith))) (subst (Rising (get_or es k no_record)) s (f.1 k u)))
entered_more c r p es e h g up i (inr ge) q =
    let n : length es ≡ i = omega arith in
    let s = sym (get_or_at es e [] no_record i n) in
    (subst (RecordFits c r p) s g, λ k u. subst (λ x. Rising x (get_or (es ++ (e ∷ [])) i no_record)) (sym (get_or-append es (e ∷ []) no_record k (omega arith))) (subst (Rising (get_or es k no_record)) s (up k (u ∙ sym n))))

pub sound_record : (b : WrittenBook) (e : Record) → SoundBook b → RecordFits b.conditions b.remedies b.parts e → AboveLast b.records e → SoundBook (plus_record b e)
sound_record b e s g up =
    let n : length (b.records ++ (e ∷ [])) ≡ suc (length b.records) = simp length-append (omega arith) in
    record { sizes = s.sizes; entries = λ i v. entered_more b.conditions b.remedies b.parts b.records e s.entries g up i (cases_lt i (length b.records)) (omega arith); smalls = s.smalls; few = s.few }

pub sound_worth : (b : WrittenBook) (z : ℤ) → SoundBook b → SmallMoney z → length b.worths < b.conditions → SoundBook (plus_worth b z)
sound_worth b z s g due =
    let n : length (b.worths ++ (z ∷ [])) ≡ suc (length b.worths) = simp length-append (omega arith) in
    record { sizes = s.sizes; entries = s.entries; smalls = All-push SmallMoney b.worths z s.smalls g; few = omega arith }

pub lawful_sound : (b : WrittenBook) → SoundBook b → length b.worths ≡ b.conditions → LawfulBook b
lawful_sound b s n = ((s.sizes, n), λ t i q. entry t i q)
  where
    entry : (t i : ℕ) → InTable (length b.records) 0 (length b.worths) t i → ListEntryFits b.conditions b.remedies b.parts b.records b.worths t i
    entry t i (inl (e, q)) = ((λ v. s.entries i q), (λ v. absurd (omega arith)))
    entry t i (inr (inl (e, q))) = absurd (omega arith)
    entry t i (inr (inr (e, q))) = ((λ v. absurd (omega arith)), (λ v. s.smalls i (pos 0) q))

pub sound_lawful : (b : WrittenBook) → LawfulBook b → SoundBook b × (length b.worths ≡ b.conditions)
sound_lawful b h =
    let n : length b.worths ≡ b.conditions = h.0.1 in
    (record { sizes = h.0.0; entries = λ i q. (h.1 1 i (inl (refl, q))).0 refl; smalls = All-from_get_or SmallMoney b.worths (pos 0) (λ i q. (h.1 3 i (inr (inr (refl, q)))).1 refl); few = omega arith }, n)

pub begun_sound : (b : WrittenBook) → SoundBook b → Begun b
begun_sound b s =
    let n = b.conditions - length b.worths in
    let zeros : List ℤ = replicate n (pos 0) in
    let few = s.few in
    let long = length-replicate n (pos 0) in
    let all : length (b.worths ++ zeros) ≡ b.conditions = simp length-append (omega arith) in
    (zeros, lawful_sound (more_worths b zeros) (record { sizes = s.sizes; entries = s.entries; smalls = All-append SmallMoney b.worths zeros s.smalls (All-replicate SmallMoney n (pos 0) (omega arith)); few = omega arith }) all)

pub sound_begun : (b : WrittenBook) → Begun b → SoundBook b
sound_begun b (zs, h) =
    let s = sound_lawful (more_worths b zs) h in
    let n = s.1 in
    let long : length (b.worths ++ zs) ≡ length b.worths + length zs = length-append b.worths zs in
    record { sizes = s.0.sizes; entries = s.0.entries; smalls = λ i d q. subst SmallMoney (get_or-append b.worths zs d i q) (s.0.smalls i d (omega arith)); few = omega arith }
