-- What is printed of a script that is served: a text for each line.
use Rattle.std.proofs.Common.{◌≡◌, ◌≢◌, ℕ, List, [], ◌∷◌, ◌++◌, ℤ, pos, Some, None, Option, Ok, Err, Result, refl, sym, ap, ◌∙◌, subst}
use Rattle.std.specs.Prelude.{not, cond, zip, map, filter, filter_map, slice_index_or}
use Rattle.std.specs.List.{cons_option, AllZip}
use Rattle.model.specs.Model.{Model}
use Rattle.criteria.specs.By.{chosen}
use Rattle.criteria.specs.declared.by.By.{By}
use Rattle.sheets.specs.declared.note.Note.{Note}
use Rattle.fields.specs.Numerals.{Bytes}
use Rattle.fields.specs.Checking.{Checked}
use Rattle.fields.specs.Checking.Checked.{good, faulty}
use Rattle.rounds.specs.Refusals.{round_number, round_places}
use Rattle.following.specs.declared.call.RoundCall.{RoundCall}
use Rattle.following.specs.declared.call.RoundCall.TheVariants.{Treat, Report, Settle}
use Rattle.following.specs.declared.call.Reply.{Reply}
use Rattle.following.specs.declared.call.Reply.TheVariants.{Treated, Reported as Moved, Settled, Declined}
use Rattle.following.specs.declared.call.Turn.{Turn}
use Rattle.service.specs.declared.call.Call.{Call}
use Rattle.service.specs.declared.call.Call.TheVariants.{Bar, Surcharge, Prolong, Lift, Judge, Plan, Round}
use Rattle.service.specs.declared.call.Request.{Request}
use Rattle.service.specs.declared.call.CallRefusal.{CallRefusal}
use Rattle.service.specs.Refusals.{call_number, call_places}
use Rattle.service.specs.Calls.{standing}
use Rattle.service.specs.Serving.{Answers, Served}
use Rattle.script.specs.Orders.{Order}
use Rattle.script.specs.Orders.Order.{bars, surcharges, prolongs, lifts, plans, judges, begins, turns}
use Rattle.script.specs.Parts.{Said, said}
use Rattle.answers.specs.Requests.{Brought, called, brought_of}
use Rattle.answers.specs.Texts.{request_text, turn_line, of_turns, of_requests, after_request, accepted, answered, line_text, after_line, Remaining, remaining, printed, is_turn}
use Rattle.answers.specs.Laws.{readable, asks_in, asks, TextOf, LinesAnswered, EachLineIsAnswered}
use Rattle.answers.specs.Laws.TextOf.{text_of_fault, text_of_silence, text_of_refusal, text_of_answer, text_of_plan, text_of_judgement}
use Rattle.answers.proofs.Asked.{orders}

-- no text is empty
not_nil : {X : Type 0} (x : X) (xs : List X) → (x ∷ xs) ≢ []
not_nil x xs e = cc

after_some : {X : Type 0} (xs : List X) (y : X) (ys : List X) → (xs ++ (y ∷ ys)) ≢ []
after_some [] y ys = not_nil y ys
after_some (x ∷ xs) y ys = not_nil x (xs ++ (y ∷ ys))

some_text : {n k : ℕ} {c : Checked Order} {t : Bytes} → TextOf n k c t → t ≢ []
some_text (text_of_fault e) = not_nil _ _
some_text (text_of_silence d) = not_nil _ _
some_text (text_of_refusal o n p) = not_nil _ _
some_text (text_of_answer o z) = not_nil _ _
some_text (text_of_plan c h n vs rs) = after_some _ _ _
some_text (text_of_judgement c h n ws vs rs) = after_some _ _ _

module _ (n k : ℕ) where
  one_turn : (d e : RoundCall) (r : Option Reply) → TextOf n k (good (turns d)) (turn_line k e r)
  one_turn d e None = text_of_silence d
  one_turn d e (Some (Treated r)) = text_of_answer (turns d) (pos r)
  one_turn d Treat (Some Moved) = text_of_silence d
  one_turn d (Report j) (Some Moved) = text_of_answer (turns d) (pos j)
  one_turn d Settle (Some Moved) = text_of_silence d
  one_turn d e (Some (Settled z)) = text_of_answer (turns d) z
  one_turn d e (Some (Declined f)) = text_of_refusal (turns d) (round_number f) (round_places f)

  turn_text : (d : RoundCall) (ts : List Turn) → TextOf n k (good (turns d)) (of_turns k ts)
  turn_text d [] = text_of_silence d
  turn_text d (t ∷ ts) = one_turn d t.call t.reply

  accepted_text : (a : ℕ) (o : Order) (vs : List ℤ) (rs : List ℕ) → TextOf n k (good o) (accepted n k a o vs rs)
  accepted_text a (bars s r f l) vs rs = text_of_answer _ (pos a)
  accepted_text a (surcharges r x f l) vs rs = text_of_answer _ (pos a)
  accepted_text a (prolongs p l) vs rs = text_of_answer _ (pos a)
  accepted_text a (lifts p) vs rs = text_of_answer _ (pos a)
  accepted_text a (plans c h) vs rs = text_of_plan c h a vs rs
  accepted_text a (judges c h ws) vs rs = text_of_judgement c h a ws vs rs
  accepted_text a (begins h s) vs rs = text_of_answer _ (slice_index_or vs s (pos 0))
  accepted_text a (turns d) vs rs = text_of_answer _ (pos a)

  answered_text : (b : Brought) (r : Result ℕ CallRefusal) → TextOf n k (good b.order) (answered n k (Some r) b)
  answered_text b (Ok a) = accepted_text a b.order b.values b.remedies
  answered_text b (Err f) = text_of_refusal b.order (call_number f) (call_places f)

-- each request has an answer
abbrev AllAnswered : List Brought → Type 0
AllAnswered [] = Unit {0}
AllAnswered (b ∷ bs) = ((r : Result ℕ CallRefusal) × (b.answer ≡ Some r)) × AllAnswered bs

-- what is left covers these orders
abbrev Covers : Remaining → List Order → Type 0
Covers l os = (map (λ b. b.order) l.requests ≡ os) × AllAnswered l.requests

abbrev Step : (n k : ℕ) → Checked Order → Remaining → List Order → Type 0
Step n k c l os = TextOf n k c (line_text n k c l) × Covers (after_line c l) os

request_step : (n k : ℕ) (o : Order) (ts : List Turn) (qs : List Brought) (os : List Order) → map (λ b. b.order) qs ≡ o ∷ os → AllAnswered qs → TextOf n k (good o) (of_requests n k qs) × Covers (after_request (remaining ts qs)) os
request_step n k o ts [] os h a = absurd (cc)
request_step n k o ts (b ∷ bs) os h a =
    let here : b.order ≡ o = cc in
    let rest : map (λ b. b.order) bs ≡ os = cc in
    (subst (λ x. TextOf n k (good x) (answered n k b.answer b)) here (subst (λ x. TextOf n k (good b.order) (answered n k x b)) (sym a.0.1) (answered_text n k b a.0.0)), (rest, a.1))

line_step : (n k : ℕ) (c : Checked Order) (l : Remaining) (os : List Order) → Covers l (filter (λ o. not (is_turn o)) (cons_option (readable (said k c)) os)) → Step n k c l (filter (λ o. not (is_turn o)) os)
line_step n k (faulty e) l os h = (text_of_fault e, h)
line_step n k (good (bars s r f p)) l os h = request_step n k (bars s r f p) l.round l.requests _ h.0 h.1
line_step n k (good (surcharges r x f p)) l os h = request_step n k (surcharges r x f p) l.round l.requests _ h.0 h.1
line_step n k (good (prolongs p q)) l os h = request_step n k (prolongs p q) l.round l.requests _ h.0 h.1
line_step n k (good (lifts p)) l os h = request_step n k (lifts p) l.round l.requests _ h.0 h.1
line_step n k (good (plans c v)) l os h = request_step n k (plans c v) l.round l.requests _ h.0 h.1
line_step n k (good (judges c v rs)) l os h = request_step n k (judges c v rs) l.round l.requests _ h.0 h.1
line_step n k (good (begins v s)) l os h = request_step n k (begins v s) l.round l.requests _ h.0 h.1
line_step n k (good (turns d)) l os h = (turn_text n k d l.round, h)

-- the texts of the lines that ask something, of the requests that are left
abbrev AsServed : (n : ℕ) → List (Said × Bytes) → List Brought → Type 0
AsServed n ps qs = AllZip (λ (p : Said × Bytes) q. p.1 ≡ request_text n p.0.number q) ps qs

none_left : (n : ℕ) (qs : List Brought) → map (λ b. b.order) qs ≡ [] → AsServed n [] qs
none_left n [] h = tt
none_left n (b ∷ bs) h = absurd (cc)

next_served : (n k : ℕ) (o : Order) (ts : List Turn) (qs : List Brought) (os : List Order) (ps : List (Said × Bytes)) → map (λ b. b.order) qs ≡ o ∷ os → AsServed n ps (after_request (remaining ts qs)).requests → AsServed n ((said k (good o), of_requests n k qs) ∷ ps) qs
next_served n k o ts [] os ps h z = absurd (cc)
next_served n k o ts (b ∷ bs) os ps h z = (refl, z)

line_served : (n k : ℕ) (c : Checked Order) (l : Remaining) (os : List Order) (ps : List (Said × Bytes)) → map (λ b. b.order) l.requests ≡ filter (λ o. not (is_turn o)) (cons_option (readable (said k c)) os) → AsServed n ps (after_line c l).requests → AsServed n (cond (asks (said k c)) ((said k c, line_text n k c l) ∷ ps) ps) l.requests
line_served n k (faulty e) l os ps h z = z
line_served n k (good (bars s r f p)) l os ps h z = next_served n k (bars s r f p) l.round l.requests _ ps h z
line_served n k (good (surcharges r x f p)) l os ps h z = next_served n k (surcharges r x f p) l.round l.requests _ ps h z
line_served n k (good (prolongs p q)) l os ps h z = next_served n k (prolongs p q) l.round l.requests _ ps h z
line_served n k (good (lifts p)) l os ps h z = next_served n k (lifts p) l.round l.requests _ ps h z
line_served n k (good (plans c v)) l os ps h z = next_served n k (plans c v) l.round l.requests _ ps h z
line_served n k (good (judges c v rs)) l os ps h z = next_served n k (judges c v rs) l.round l.requests _ ps h z
line_served n k (good (begins v s)) l os ps h z = next_served n k (begins v s) l.round l.requests _ ps h z
line_served n k (good (turns d)) l os ps h z = z

lines_answered : (n : ℕ) (l : Remaining) (script : List Said) → Covers l (asks_in script) → LinesAnswered n script l.requests (printed n l script)
lines_answered n l [] h = record { texts = []; whole = refl; each = tt; requests = none_left n l.requests h.0 }
lines_answered n l (x ∷ xs) h =
    let step = line_step n x.number x.order l (filter_map readable xs) h in
    let rest = lines_answered n (after_line x.order l) xs step.1 in
    record {
      texts = line_text n x.number x.order l ∷ rest.texts;
      whole = ap (λ z. line_text n x.number x.order l ++ z) rest.whole;
      each = ((step.0, some_text step.0), rest.each);
      requests = line_served n x.number x.order l (filter_map readable xs) (filter (λ p. asks p.0) (zip xs rest.texts)) h.0 rest.requests;
    }

-- a request that is served asks what it asked
same_order : (m : Model) (ns : List Note) (c back : Call By ℤ) (a : Result ℕ CallRefusal) (x y : Option (Result ℕ CallRefusal)) → Answers chosen m ns c a back → (called back y).order ≡ (called c x).order
same_order m ns (Bar s r f l) back a x y p = ap (λ z. (called z y).order) p.1
same_order m ns (Surcharge r z f l) back a x y p = ap (λ z. (called z y).order) p.1
same_order m ns (Prolong q l) back a x y p = ap (λ z. (called z y).order) p.1
same_order m ns (Lift q) back a x y p = ap (λ z. (called z y).order) p.1
same_order m ns (Judge c h vs rs) back a x y p = ap (λ z. (called z y).order) p.given_back
same_order m ns (Plan c h vs rs) back a x y p = ap (λ z. (called z y).order) p.given_back
same_order m ns (Round h s vs rs ts) back a x y p = ap (λ z. (called z y).order) p.given_back

same_answer : (c : Call By ℤ) (a : Option (Result ℕ CallRefusal)) → (called c a).answer ≡ a
same_answer (Bar s r f l) a = refl
same_answer (Surcharge r z f l) a = refl
same_answer (Prolong q l) a = refl
same_answer (Lift q) a = refl
same_answer (Judge c h vs rs) a = refl
same_answer (Plan c h vs rs) a = refl
same_answer (Round h s vs rs ts) a = refl

served_orders : (m : Model) (ns : List Note) (xs ys : List (Request By ℤ)) → Served chosen m ns xs ys → (map (λ b. b.order) (map brought_of ys) ≡ map (λ b. b.order) (map brought_of xs)) × AllAnswered (map brought_of ys)
served_orders m ns [] [] s = (refl, tt)
served_orders m ns [] (y ∷ ys) s = absurd s
served_orders m ns (x ∷ xs) [] s = absurd s
served_orders m ns (x ∷ xs) (y ∷ ys) s =
    let here = same_order m ns x.call y.call s.0.answer x.answer y.answer s.0.performed in
    let rest = served_orders m (standing m ns x.call) xs ys s.1 in
    ((λ i. here i ∷ rest.0 i), ((s.0.answer, same_answer y.call y.answer ∙ s.0.written), rest.1))

pub each_line_is_answered : EachLineIsAnswered
each_line_is_answered m script output s =
    let served = served_orders m [] s.before s.after s.served in
    let lines = lines_answered m.conditions (remaining [] (map brought_of s.after)) script (served.0 ∙ ap (map (λ b. b.order)) s.asked ∙ orders m.conditions script, served.1) in
    record { texts = lines.texts; whole = s.prints ∙ lines.whole; each = lines.each; requests = lines.requests }
