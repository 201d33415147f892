-- The desk answers an input in one way: what a script sees of its requests settles what it sees of them when they are served.
use Rattle.std.proofs.Common.{◌≡◌, ℕ, List, [], ◌∷◌, length, ℤ, Some, Option, Result, refl, sym, ap, ◌∙◌, subst, ⊎_elim, arith}
use Rattle.std.specs.Prelude.{map}
use Rattle.std.proofs.lemmas.Bool.{cases_lt}
use Rattle.model.specs.Model.{Model, Lawful, offers}
use Rattle.criteria.specs.Criteria.{Ops}
use Rattle.criteria.specs.Mean.{mean}
use Rattle.criteria.specs.Floor.{floor}
use Rattle.criteria.specs.By.{chosen}
use Rattle.criteria.specs.declared.by.By.{By}
use Rattle.criteria.specs.declared.by.By.TheVariants.{Mean, Floor}
use Rattle.sheets.specs.declared.note.Note.{Note}
use Rattle.sheets.specs.Notes.{noted}
use Rattle.sheets.specs.Keeping.{noted_lawful}
use Rattle.sheets.specs.Calls.{to_bar, to_surcharge, to_prolong, to_lift}
use Rattle.checks.specs.declared.refusal.PlanRefusal.{PlanRefusal}
use Rattle.planning.specs.Plans.{PlanAnswers}
use Rattle.planning.specs.Judgements.{JudgeAnswers}
use Rattle.planning.proofs.Determined.{plans_are_determined, judgements_are_determined}
use Rattle.quoting.specs.declared.question.By.{By as Letter}
use Rattle.quoting.specs.declared.question.By.TheVariants.{Mean as mean_letter, Floor as floor_letter}
use Rattle.quoting.proofs.Once.{lawful_meaning}
use Rattle.fields.specs.Numerals.{Bytes}
use Rattle.fields.specs.Checking.{Checked}
use Rattle.fields.specs.Checking.Checked.{good, faulty}
use Rattle.bookfile.specs.File.{WrittenBook}
use Rattle.bookfile.specs.FileFaults.{Reads}
use Rattle.bookfile.proofs.Exactness.{reading_is_exact_lem}
use Rattle.following.specs.declared.call.Turn.{Turn}
use Rattle.following.specs.declared.follow.Unfollowed.{Unfollowed}
use Rattle.following.specs.Following.{RoundAnswers}
use Rattle.following.proofs.Answered.{rounds_are_determined}
use Rattle.service.specs.declared.call.Call.{Call}
use Rattle.service.specs.declared.call.Call.TheVariants.{Bar, Surcharge, Prolong, Lift, Judge, Plan, Round}
use Rattle.service.specs.declared.call.Request.{Request}
use Rattle.service.specs.declared.call.CallRefusal.{CallRefusal}
use Rattle.service.specs.Calls.{standing}
use Rattle.service.specs.Serving.{of_notes, of_plans, of_rounds, Answers, Served}
use Rattle.script.specs.Orders.{Order}
use Rattle.script.specs.Orders.Order.{bars, surcharges, prolongs, lifts, plans, judges, begins, turns}
use Rattle.script.specs.Parts.{Said, book_part, script_of}
use Rattle.answers.specs.Requests.{Brought, brought, letter_for, called, brought_of}
use Rattle.answers.specs.Texts.{remaining, printed}
use Rattle.answers.specs.Desk.{Serves, Tells, Told, model_of}
use Rattle.answers.specs.Laws.{OneDesk}

-- a criterion by its letter
abbrev by_letter : Letter → Ops ℤ ℤ
by_letter mean_letter = mean
by_letter floor_letter = floor

chosen_by_letter : (c : By) → chosen c ≡ by_letter (letter_for c)
chosen_by_letter (Mean x) = refl
chosen_by_letter (Floor x) = refl

module _ (m : Model) where
  -- the notes standing after an order
  abbrev stands : List Note → Order → List Note
  stands ns (bars s r f l) = (to_bar (offers m) ns s r (record { first = f; last = l })).1
  stands ns (surcharges r x f l) = (to_surcharge (offers m) ns r x (record { first = f; last = l })).1
  stands ns (prolongs p l) = (to_prolong ns p l).1
  stands ns (lifts p) = (to_lift ns p).1
  stands ns (plans c h) = ns
  stands ns (judges c h ws) = ns
  stands ns (begins h s) = ns
  stands ns (turns d) = ns

  standing_stands : (ns : List Note) (c : Call By ℤ) (w : Option (Result ℕ CallRefusal)) → standing m ns c ≡ stands ns (called c w).order
  standing_stands ns (Bar s r f l) w = refl
  standing_stands ns (Surcharge r x f l) w = refl
  standing_stands ns (Prolong p l) w = refl
  standing_stands ns (Lift p) w = refl
  standing_stands ns (Judge c h vs rs) w = refl
  standing_stands ns (Plan c h vs rs) w = refl
  standing_stands ns (Round h s vs rs ts) w = refl

  -- a request that is served, as a script sees it
  abbrev Replied : List Note → Order → List ℤ → List ℕ → List Turn → Result ℕ CallRefusal → Brought → Type 0
  Replied ns (bars s r f l) vs rs ts a y = (a ≡ of_notes (to_bar (offers m) ns s r (record { first = f; last = l })).0) × (y ≡ brought (bars s r f l) [] [] [] (Some a))
  Replied ns (surcharges r x f l) vs rs ts a y = (a ≡ of_notes (to_surcharge (offers m) ns r x (record { first = f; last = l })).0) × (y ≡ brought (surcharges r x f l) [] [] [] (Some a))
  Replied ns (prolongs p l) vs rs ts a y = (a ≡ of_notes (to_prolong ns p l).0) × (y ≡ brought (prolongs p l) [] [] [] (Some a))
  Replied ns (lifts p) vs rs ts a y = (a ≡ of_notes (to_lift ns p).0) × (y ≡ brought (lifts p) [] [] [] (Some a))
  Replied ns (plans c h) vs rs ts a y = (x : Result ℕ PlanRefusal) × (vs' : List ℤ) × (rs' : List ℕ) × (a ≡ of_plans x) × (y ≡ brought (plans c h) vs' rs' [] (Some a)) × PlanAnswers (by_letter c) (noted m ns) h x vs vs' rs rs'
  Replied ns (judges c h ws) vs rs ts a y = (x : Result ℕ PlanRefusal) × (vs' : List ℤ) × (a ≡ of_plans x) × (y ≡ brought (judges c h ws) vs' ws [] (Some a)) × JudgeAnswers (by_letter c) (noted m ns) h x vs vs' ws
  Replied ns (begins h s) vs rs ts a y = (x : Result ℕ Unfollowed) × (vs' : List ℤ) × (rs' : List ℕ) × (ts' : List Turn) × (a ≡ of_rounds x) × (y ≡ brought (begins h s) vs' rs' ts' (Some a)) × RoundAnswers (noted m ns) h s x vs vs' rs rs' ts ts'
  Replied ns (turns d) vs rs ts a y = ⊥

  replied : (ns : List Note) (c back : Call By ℤ) (a : Result ℕ CallRefusal) (w y : Option (Result ℕ CallRefusal)) → y ≡ Some a → Answers chosen m ns c a back → Replied ns (called c w).order (called c w).values (called c w).remedies (called c w).round a (called back y)
  replied ns (Bar s r f l) back a w y e p = (p.0, ap (λ z. called z y) p.1 ∙ ap (λ z. brought (bars s r f l) [] [] [] z) e)
  replied ns (Surcharge r x f l) back a w y e p = (p.0, ap (λ z. called z y) p.1 ∙ ap (λ z. brought (surcharges r x f l) [] [] [] z) e)
  replied ns (Prolong q l) back a w y e p = (p.0, ap (λ z. called z y) p.1 ∙ ap (λ z. brought (prolongs q l) [] [] [] z) e)
  replied ns (Lift q) back a w y e p = (p.0, ap (λ z. called z y) p.1 ∙ ap (λ z. brought (lifts q) [] [] [] z) e)
  replied ns (Judge c h vs rs) back a w y e p = (p.answer, p.values.items, p.answered, ap (λ z. called z y) p.given_back ∙ ap (λ z. brought (judges (letter_for c) h rs.items) p.values.items rs.items [] z) e, subst (λ o. JudgeAnswers o (noted m ns) h p.answer vs.items p.values.items rs.items) (chosen_by_letter c) p.judged)
  replied ns (Plan c h vs rs) back a w y e p = (p.answer, p.values.items, p.remedies.items, p.answered, ap (λ z. called z y) p.given_back ∙ ap (λ z. brought (plans (letter_for c) h) p.values.items p.remedies.items [] z) e, subst (λ o. PlanAnswers o (noted m ns) h p.answer vs.items p.values.items rs.items p.remedies.items) (chosen_by_letter c) p.planned)
  replied ns (Round h s vs rs ts) back a w y e p = (p.answer, p.values.items, p.remedies.items, p.turns.items, p.answered, ap (λ z. called z y) p.given_back ∙ ap (λ z. brought (begins h s) p.values.items p.remedies.items p.turns.items z) e, p.led)

  replied_once : Lawful m → (ns : List Note) (o : Order) (vs : List ℤ) (rs : List ℕ) (ts : List Turn) (a b : Result ℕ CallRefusal) (y z : Brought) → Replied ns o vs rs ts a y → Replied ns o vs rs ts b z → y ≡ z
  replied_once lawful ns (bars s r f l) vs rs ts a b y z p q = p.1 ∙ ap (λ t. brought (bars s r f l) [] [] [] (Some t)) (p.0 ∙ sym q.0) ∙ sym q.1
  replied_once lawful ns (surcharges r x f l) vs rs ts a b y z p q = p.1 ∙ ap (λ t. brought (surcharges r x f l) [] [] [] (Some t)) (p.0 ∙ sym q.0) ∙ sym q.1
  replied_once lawful ns (prolongs k l) vs rs ts a b y z p q = p.1 ∙ ap (λ t. brought (prolongs k l) [] [] [] (Some t)) (p.0 ∙ sym q.0) ∙ sym q.1
  replied_once lawful ns (lifts k) vs rs ts a b y z p q = p.1 ∙ ap (λ t. brought (lifts k) [] [] [] (Some t)) (p.0 ∙ sym q.0) ∙ sym q.1
  replied_once lawful ns (plans c h) vs rs ts a b y z p q =
      let same = plans_are_determined (by_letter c) (noted m ns) h vs p.1 q.1 rs p.2 q.2 p.0 q.0 (noted_lawful m ns lawful) p.5 q.5 in
      let answer = p.3 ∙ ap of_plans same.0 ∙ sym q.3 in
      p.4 ∙ (λ i. brought (plans c h) (same.1 i) (same.2 i) [] (Some (answer i))) ∙ sym q.4
  replied_once lawful ns (judges c h ws) vs rs ts a b y z p q =
      let same = judgements_are_determined (by_letter c) (noted m ns) h vs p.1 q.1 ws p.0 q.0 (noted_lawful m ns lawful) p.4 q.4 in
      let answer = p.2 ∙ ap of_plans same.0 ∙ sym q.2 in
      p.3 ∙ (λ i. brought (judges c h ws) (same.1 i) ws [] (Some (answer i))) ∙ sym q.3
  replied_once lawful ns (begins h s) vs rs ts a b y z p q =
      let same = rounds_are_determined (noted m ns) h s vs p.1 q.1 rs p.2 q.2 ts p.3 q.3 p.0 q.0 (noted_lawful m ns lawful) p.6 q.6 in
      let answer = p.4 ∙ ap of_rounds same.0 ∙ sym q.4 in
      p.5 ∙ (λ i. brought (begins h s) (same.1 i) (same.2 i) (same.3 i) (Some (answer i))) ∙ sym q.5
  replied_once lawful ns (turns d) vs rs ts a b y z p q = absurd p

  -- a list of requests that is served, as a script sees it
  abbrev RepliedAll : List Note → (before after : List Brought) → Type 0
  RepliedAll ns [] [] = Unit {0}
  RepliedAll ns [] (y ∷ ys) = ⊥
  RepliedAll ns (x ∷ xs) [] = ⊥
  RepliedAll ns (x ∷ xs) (y ∷ ys) = ((a : Result ℕ CallRefusal) × Replied ns x.order x.values x.remedies x.round a y) × RepliedAll (stands ns x.order) xs ys

  replied_all : (ns : List Note) (xs ys : List (Request By ℤ)) → Served chosen m ns xs ys → RepliedAll ns (map brought_of xs) (map brought_of ys)
  replied_all ns [] [] s = tt
  replied_all ns [] (y ∷ ys) s = absurd s
  replied_all ns (x ∷ xs) [] s = absurd s
  replied_all ns (x ∷ xs) (y ∷ ys) s = (
    (s.0.answer, replied ns x.call y.call s.0.answer x.answer y.answer s.0.written s.0.performed),
    subst (λ k. RepliedAll k (map brought_of xs) (map brought_of ys)) (standing_stands ns x.call x.answer) (replied_all (standing m ns x.call) xs ys s.1),
  )

  all_once : Lawful m → (ns : List Note) (xs ys zs : List Brought) → RepliedAll ns xs ys → RepliedAll ns xs zs → ys ≡ zs
  all_once lawful ns [] [] [] p q = refl
  all_once lawful ns [] [] (z ∷ zs) p q = absurd q
  all_once lawful ns [] (y ∷ ys) zs p q = absurd p
  all_once lawful ns (x ∷ xs) [] zs p q = absurd p
  all_once lawful ns (x ∷ xs) (y ∷ ys) [] p q = absurd q
  all_once lawful ns (x ∷ xs) (y ∷ ys) (z ∷ zs) p q =
      let here = replied_once lawful ns x.order x.values x.remedies x.round p.0.0 q.0.0 y z p.0.1 q.0.1 in
      let rest = all_once lawful (stands ns x.order) xs ys zs p.1 q.1 in
      (λ i. here i ∷ rest i)

  serves_once : Lawful m → (script : List Said) (output other : Bytes) → Serves m script output → Serves m script other → other ≡ output
  serves_once lawful script output other x y =
      let p = replied_all [] x.before x.after x.served in
      let q = subst (λ k. RepliedAll [] k (map brought_of y.after)) (y.asked ∙ sym x.asked) (replied_all [] y.before y.after y.served) in
      let same = all_once lawful [] (map brought_of x.before) (map brought_of x.after) (map brought_of y.after) p q in
      y.prints ∙ ap (λ k. printed m.conditions (remaining [] k) script) (sym same) ∙ sym x.prints

tells_once : (m w : ℕ) (file : Bytes) (b : Checked WrittenBook) (script : List Said) (output other : Bytes) → Reads m w file b → Tells b script output → Tells b script other → other ≡ output
tells_once m w file (good b) script output other r x y = serves_once (model_of b) (lawful_meaning b r.1) script output other x y
tells_once m w file (faulty e) script output other r x y = y ∙ sym x

told_once : (m w : ℕ) (file : Bytes) (script : List Said) (output other : Bytes) → Told m w file script output → Told m w file script other → other ≡ output
told_once m w file script output other (a, r, x) (b, s, y) =
    let same = (reading_is_exact_lem m w file b).0 s ∙ sym ((reading_is_exact_lem m w file a).0 r) in
    tells_once m w file a script output other r x (subst (λ z. Tells z script other) same y)

pub one_desk : OneDesk
one_desk input output other x y = ⊎_elim
    (λ h. y.too_long h ∙ sym (x.too_long h))
    (λ h. told_once 2048 32 (book_part input) (script_of input) output other (x.told (omega arith)) (y.told (omega arith)))
    (cases_lt 65536 (length input))
