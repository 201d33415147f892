-- Notes laid over a book, in order of entry, and what the book means under them.
use Rattle.std.specs.Prelude.{ℕ, Bool, false, cond, not, ◌&&◌, List, [], ◌∷◌, ℤ, pos, negsuc, ◌+ℤ◌, ◌==◌, nat_le, nat_lt}
use Rattle.std.specs.Int.{int_max, int_min}
use Rattle.std.specs.List.{list_any}
use Rattle.model.specs.Model.{Model, Offers, offers}
use Rattle.sheets.specs.declared.note.Visits.{Visits}
use Rattle.sheets.specs.declared.note.Note.{Note}
use Rattle.sheets.specs.declared.note.Effect.{Effect}
use Rattle.sheets.specs.declared.note.Effect.TheVariants.{Bar, Surcharge}

-- a visit from first to last
abbrev pub covers : Visits → (visit : ℕ) → Bool
covers v visit = nat_le v.first visit && nat_le visit v.last

-- a note for the remedy r at the visit n
abbrev pub about : Note → (n r : ℕ) → Bool
about x n r = covers x.visits n && x.remedy == r

-- the condition in which an effect bars
abbrev pub barring : Effect → (s : ℕ) → Bool
barring (Bar s') s = s' == s
barring (Surcharge a) s = false

abbrev pub added : Effect → ℤ
added (Bar s) = pos 0
added (Surcharge a) = a

-- whether a note bars the remedy r in the condition s at the visit n
abbrev pub bars : Note → (n s r : ℕ) → Bool
bars x n s r = about x n r && barring x.effect s

abbrev pub barred : List Note → (n s r : ℕ) → Bool
barred ns n s r = list_any (λ x. bars x n s r) ns

-- what a note adds to the amounts of the remedy r at the visit n
abbrev pub charge : Note → (n r : ℕ) → ℤ
charge x n r = cond (about x n r) (added x.effect) (pos 0)

abbrev pub surcharged : List Note → (n r : ℕ) → ℤ
surcharged [] n r = pos 0
surcharged (x ∷ ns) n r = charge x n r +ℤ surcharged ns n r

-- held within a thousand million either way
abbrev pub held : ℤ → ℤ
held z = int_max (negsuc 999999999) (int_min z (pos 1000000000))

-- a visit from 1 to 48, and a condition, a remedy and a next condition within the sizes
abbrev pub inside : Offers → (n s r j : ℕ) → Bool
inside o n s r j = nat_le 1 n && nat_le n 48 && nat_lt s o.conditions && nat_lt r o.remedies && nat_lt j o.conditions

-- what a book of this model means under the notes: surcharges are added up exactly, and the sum is held once
abbrev pub noted : Model → List Note → Model
noted m ns = record {
  conditions = m.conditions;
  remedies = m.remedies;
  parts = m.parts;
  offered = λ n s r. m.offered n s r && not (barred ns n s r);
  share = m.share;
  amount = λ n s r j. cond (inside (offers m) n s r j) (held (m.amount n s r j +ℤ surcharged ns n r)) (pos 0);
  worth = m.worth;
}
