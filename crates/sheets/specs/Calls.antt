-- The four calls that change the notes: what each answers, and the notes standing after it.
use Rattle.std.specs.Prelude.{ℕ, suc, ◌-◌, Bool, cond, not, ◌&&◌, ◌||◌, List, [], ◌∷◌, ◌++◌, length, take, drop, ℤ, pos, negsuc, Some, None, Ok, Err, Option, Result, ◌==◌, int_lt, nat_le, nat_lt, slice_index_or, slice_set}
use Rattle.model.specs.Model.{Offers}
use Rattle.sheets.specs.declared.note.Visits.{Visits}
use Rattle.sheets.specs.declared.note.Note.{Note}
use Rattle.sheets.specs.declared.note.Effect.TheVariants.{Bar, Surcharge}
use Rattle.sheets.specs.declared.refusal.NoteRefusal.{NoteRefusal}
use Rattle.sheets.specs.declared.refusal.NoteRefusal.TheVariants.{Unknown, Span, Dear, Full}

-- what a call answers, and the notes standing after it
abbrev pub Answered : Type 0
Answered = Result ℕ NoteRefusal × List Note

-- visits that no note may have: the first below 1, the last before the first or past 48
abbrev pub misspanned : Visits → Bool
misspanned v = v.first == 0 || nat_lt v.last v.first || nat_lt 48 v.last

-- the visits, unless no note may have them
abbrev pub spanned : Visits → Result Visits NoteRefusal
spanned v = cond (misspanned v) (Err Span) (Ok v)

-- a surcharge past a million either way
abbrev pub too_dear : ℤ → Bool
too_dear a = int_lt (pos 1000000) a || int_lt a (negsuc 999999)

-- at most 24 notes stand, each at its place from 1
abbrev pub entering : List Note → Note → Answered
entering ns x = cond (nat_le 24 (length ns)) (Err Full, ns) (Ok (suc (length ns)), ns ++ (x ∷ []))

abbrev pub to_bar : Offers → List Note → (s r : ℕ) → Visits → Answered
to_bar o ns s r v =
    cond (nat_le o.conditions s || nat_le o.remedies r) (Err Unknown, ns)
    (cond (misspanned v) (Err Span, ns)
    (entering ns (record { remedy = r; visits = v; effect = Bar s })))

abbrev pub to_surcharge : Offers → List Note → (r : ℕ) (a : ℤ) → Visits → Answered
to_surcharge o ns r a v =
    cond (nat_le o.remedies r) (Err Unknown, ns)
    (cond (misspanned v) (Err Span, ns)
    (cond (too_dear a) (Err Dear, ns)
    (entering ns (record { remedy = r; visits = v; effect = Surcharge a }))))

-- the note for other visits
abbrev pub moved : Note → Visits → Note
moved x w = record { remedy = x.remedy; visits = w; effect = x.effect }

-- the same visits up to another last one
abbrev pub until : Visits → ℕ → Visits
until v l = record { first = v.first; last = l }

abbrev pub stands_at : List Note → ℕ → Bool
stands_at ns place = nat_le 1 place && nat_le place (length ns)

-- read where no note stands
abbrev pub no_note : Note
no_note = record { remedy = 0; visits = record { first = 0; last = 0 }; effect = Bar 0 }

-- the note that stands at a place
abbrev pub note_at : List Note → ℕ → Note
note_at ns place = slice_index_or ns (place - 1) no_note

abbrev pub standing_at : List Note → (place : ℕ) → Option Note
standing_at ns place = cond (stands_at ns place) (Some (note_at ns place)) None

abbrev pub to_prolong : List Note → (place last : ℕ) → Answered
to_prolong ns p l =
    let x = note_at ns p in
    let v = until x.visits l in
    cond (not (stands_at ns p)) (Err Unknown, ns)
    (cond (misspanned v) (Err Span, ns)
    (Ok p, slice_set ns (p - 1) (moved x v)))

-- those after the lifted one move down a place
abbrev pub to_lift : List Note → (place : ℕ) → Answered
to_lift ns p =
    cond (not (stands_at ns p)) (Err Unknown, ns)
    (Ok (length ns - 1), take (p - 1) ns ++ drop p ns)
