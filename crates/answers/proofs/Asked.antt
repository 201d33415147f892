-- The requests of a script: one for each order that is not a turn, and a round with its own turns.
use Rattle.std.proofs.Common.{◌≡◌, ℕ, ◌+◌, ◌*◌, ◌≤◌, false, ◌&&◌, List, [], ◌∷◌, ◌++◌, length, replicate, pos, None, Option, refl, ap, ◌∙◌, arith}
use Rattle.std.proofs.lemmas.List.{length-replicate, get_or-replicate}
use Rattle.std.specs.Cmp.Derive.{both_true}
use Rattle.std.specs.Prelude.{not, map, filter, filter_map, slice_get, All, nat_le}
use Rattle.std.specs.List.{cons_option}
use Rattle.std.proofs.lemmas.List.Elements.{All-cons, All-nil}
use Rattle.std.proofs.lemmas.Bool.{leb-true, le-leb, cond_both, and_parts, both_ways}
use Rattle.fields.specs.Checking.{Checked}
use Rattle.fields.specs.Checking.Checked.{good, faulty}
use Rattle.following.specs.declared.call.RoundCall.{RoundCall}
use Rattle.following.specs.declared.call.Turn.{Turn}
use Rattle.script.specs.Orders.{Order}
use Rattle.script.specs.Orders.Order.{bars, surcharges, prolongs, lifts, plans, judges, begins, turns}
use Rattle.script.specs.Parts.{Said, said}
use Rattle.answers.specs.Requests.{Brought, brought, room, requested, turned, turns_ahead, requests_of}
use Rattle.answers.specs.Texts.{is_turn}
use Rattle.answers.specs.Laws.{readable, call_of_turn, asks_in, turn_calls_in, IsBlank, IsUnserved, EachOrderIsARequest, EndsARound, RoundsTakeTheirTurns}

-- the orders that a line adds
abbrev ask_of : Checked Order → List Order → List Order
ask_of c os = filter (λ o. not (is_turn o)) (cons_option (readable (said 0 c)) os)

one_order : (n : ℕ) (c : Checked Order) (ts : List Turn) (qs : List Brought) (os : List Order) → map (λ b. b.order) qs ≡ filter (λ o. not (is_turn o)) os → map (λ b. b.order) (cons_option (requested n c ts) qs) ≡ ask_of c os
one_order n (faulty e) ts qs os h = h
one_order n (good (bars s r f l)) ts qs os h = ap (λ z. bars s r f l ∷ z) h
one_order n (good (surcharges r x f l)) ts qs os h = ap (λ z. surcharges r x f l ∷ z) h
one_order n (good (prolongs p l)) ts qs os h = ap (λ z. prolongs p l ∷ z) h
one_order n (good (lifts p)) ts qs os h = ap (λ z. lifts p ∷ z) h
one_order n (good (plans c v)) ts qs os h = ap (λ z. plans c v ∷ z) h
one_order n (good (judges c v rs)) ts qs os h = ap (λ z. judges c v rs ∷ z) h
one_order n (good (begins v s)) ts qs os h = ap (λ z. begins v s ∷ z) h
one_order n (good (turns d)) ts qs os h = h

pub orders : (n : ℕ) (script : List Said) → map (λ b. b.order) (requests_of n script) ≡ asks_in script
orders n [] = refl
orders n (x ∷ xs) = one_order n x.order (turns_ahead xs) (requests_of n xs) (filter_map readable xs) (orders n xs)

-- a table has its entries where there is a plan of so many visits, and none elsewhere
has_room : (h n : ℕ) → 1 ≤ h → h ≤ 48 → room h n ≡ n
has_room h n some few = cond_both (nat_le 1 h && nat_le h 48) n 0 (λ z. z ≡ n) (λ _. refl) (λ e. absurd (both_ways _ e (both_true (le-leb 1 h some) (le-leb h 48 few))))

no_room : (h n : ℕ) → (1 ≤ h → h ≤ 48 → ⊥) → room h n ≡ 0
no_room h n none = cond_both (nat_le 1 h && nat_le h 48) n 0 (λ z. z ≡ 0) (λ e. let d = and_parts (nat_le 1 h) (nat_le h 48) e in absurd (none (leb-true 1 h d.0) (leb-true h 48 d.1))) (λ _. refl)

blank : {X : Type 0} (x : X) (h n : ℕ) → IsBlank x h n (replicate (room h n) x)
blank x h n = record {
  room = λ some few. length-replicate (room h n) x ∙ has_room h n some few;
  no_visit = λ none. length-replicate (room h n) x ∙ no_room h n (λ some few. omega arith);
  many_visits = λ many. length-replicate (room h n) x ∙ no_room h n (λ some few. omega arith);
  each = λ k d l. get_or-replicate (room h n) k x d (let e = length-replicate (room h n) x in omega (arith, l, e));
}

one_unserved : (n : ℕ) (c : Checked Order) (ts : List Turn) (qs : List Brought) → All (IsUnserved n) qs → All (IsUnserved n) (cons_option (requested n c ts) qs)
one_unserved n (faulty e) ts qs h = h
one_unserved n (good (bars s r f l)) ts qs h = All-cons (IsUnserved n) (brought (bars s r f l) [] [] [] None) qs (record { unanswered = refl; tables = (refl, refl, refl) }) h
one_unserved n (good (surcharges r x f l)) ts qs h = All-cons (IsUnserved n) _ qs (record { unanswered = refl; tables = (refl, refl, refl) }) h
one_unserved n (good (prolongs p l)) ts qs h = All-cons (IsUnserved n) _ qs (record { unanswered = refl; tables = (refl, refl, refl) }) h
one_unserved n (good (lifts p)) ts qs h = All-cons (IsUnserved n) _ qs (record { unanswered = refl; tables = (refl, refl, refl) }) h
one_unserved n (good (plans c v)) ts qs h = All-cons (IsUnserved n) _ qs (record { unanswered = refl; tables = (blank (pos 0) v ((v + 1) * n), blank 0 v (v * n), refl) }) h
one_unserved n (good (judges c v rs)) ts qs h = All-cons (IsUnserved n) _ qs (record { unanswered = refl; tables = (blank (pos 0) v ((v + 1) * n), refl, refl) }) h
one_unserved n (good (begins v s)) ts qs h = All-cons (IsUnserved n) _ qs (record { unanswered = refl; tables = (blank (pos 0) v ((v + 1) * n), blank 0 v (v * n)) }) h
one_unserved n (good (turns d)) ts qs h = h

unserved : (n : ℕ) (script : List Said) → All (IsUnserved n) (requests_of n script)
unserved n [] = All-nil (IsUnserved n)
unserved n (x ∷ xs) = one_unserved n x.order (turns_ahead xs) (requests_of n xs) (unserved n xs)

pub each_order_is_a_request : EachOrderIsARequest
each_order_is_a_request n script = (orders n script, unserved n script)

-- the request at the place after those of some lines
one_before : (n : ℕ) (c : Checked Order) (ts : List Turn) (qs : List Brought) (os : List Order) (r : Option Brought) → slice_get qs (length (filter (λ o. not (is_turn o)) os)) ≡ r → slice_get (cons_option (requested n c ts) qs) (length (ask_of c os)) ≡ r
one_before n (faulty e) ts qs os r h = h
one_before n (good (bars s r' f l)) ts qs os r h = h
one_before n (good (surcharges r' x f l)) ts qs os r h = h
one_before n (good (prolongs p l)) ts qs os r h = h
one_before n (good (lifts p)) ts qs os r h = h
one_before n (good (plans c v)) ts qs os r h = h
one_before n (good (judges c v rs)) ts qs os r h = h
one_before n (good (begins v s)) ts qs os r h = h
one_before n (good (turns d)) ts qs os r h = h

after_lines : (n : ℕ) (before rest : List Said) → slice_get (requests_of n (before ++ rest)) (length (asks_in before)) ≡ slice_get (requests_of n rest) 0
after_lines n [] rest = refl
after_lines n (x ∷ xs) rest = one_before n x.order (turns_ahead (xs ++ rest)) (requests_of n (xs ++ rest)) (filter_map readable xs) (slice_get (requests_of n rest) 0) (after_lines n xs rest)

-- no order but a turn goes on with a round
ended : (c : Checked Order) (o : Order) (ts : List Turn) → c ≡ good o → is_turn o ≡ false → turned c ts ≡ []
ended c o ts e h = ap (λ x. turned x ts) e ∙ stopped o h
  where
    stopped : (o : Order) → is_turn o ≡ false → turned (good o) ts ≡ []
    stopped (bars s r f l) h = refl
    stopped (surcharges r x f l) h = refl
    stopped (prolongs p l) h = refl
    stopped (lifts p) h = refl
    stopped (plans c v) h = refl
    stopped (judges c v rs) h = refl
    stopped (begins v s) h = refl
    stopped (turns d) h = absurd (cc)

abbrev turn_for : RoundCall → Turn
turn_for d = record { call = d; reply = None }

one_turn : (c : Checked Order) (ts : List Turn) (os : List Order) → ask_of c os ≡ [] → (filter (λ o. not (is_turn o)) os ≡ [] → ts ≡ map turn_for (filter_map call_of_turn os)) → turned c ts ≡ map turn_for (filter_map call_of_turn (cons_option (readable (said 0 c)) os))
one_turn (faulty e) ts os h g = g h
one_turn (good (bars s r f l)) ts os h g = absurd (cc)
one_turn (good (surcharges r x f l)) ts os h g = absurd (cc)
one_turn (good (prolongs p l)) ts os h g = absurd (cc)
one_turn (good (lifts p)) ts os h g = absurd (cc)
one_turn (good (plans c v)) ts os h g = absurd (cc)
one_turn (good (judges c v rs)) ts os h g = absurd (cc)
one_turn (good (begins v s)) ts os h g = absurd (cc)
one_turn (good (turns d)) ts os h g = ap (λ z. turn_for d ∷ z) (g h)

turns_taken : (lines after : List Said) → asks_in lines ≡ [] → EndsARound after → turns_ahead (lines ++ after) ≡ map turn_for (turn_calls_in lines)
turns_taken [] [] h e = refl
turns_taken [] (x ∷ xs) h e = ended x.order e.0 (turns_ahead xs) e.1 e.2
turns_taken (x ∷ xs) after h e = one_turn x.order (turns_ahead (xs ++ after)) (filter_map readable xs) h (λ g. turns_taken xs after g e)

pub rounds_take_their_turns : RoundsTakeTheirTurns
rounds_take_their_turns n before lines after k h s none end = record {
  request = _;
  found = after_lines n before (said k (good (begins h s)) ∷ (lines ++ after));
  order = refl;
  takes = turns_taken lines after none end;
}
