-- Settled rounds have followed possible courses, and along every possible course a round can be led.
use Rattle.std.proofs.Common.{◌≡◌, ℕ, suc, ◌+◌, ◌*◌, ◌<◌, ◌≤◌, T, List, [], ◌∷◌, length, ℤ, Ok, refl, sym, ap, ◌∙◌, subst, arith}
use Rattle.model.specs.Passed.{is_true}
use Rattle.model.specs.Model.{Model, Lawful, offers}
use Rattle.criteria.specs.Policies.{History, Within, Policy, onward}
use Rattle.criteria.specs.Expected.{gain}
use Rattle.criteria.specs.Floor.{floor}
use Rattle.criteria.specs.Least.{Possible}
use Rattle.criteria.proofs.Histories.{within_more}
use Rattle.totals.specs.Totals.{LeastTotals}
use Rattle.totals.specs.Floors.{floors_are_totals}
use Rattle.totals.proofs.Behind.{planned_totals}
use Rattle.rounds.specs.States.{Arrival, Treatment}
use Rattle.rounds.specs.Calls.{first_arrival, named_remedy, treated_by, next_arrival, final_total}
use Rattle.following.specs.declared.call.RoundCall.{RoundCall}
use Rattle.following.specs.declared.call.Reply.{Reply}
use Rattle.following.specs.declared.call.Reply.TheVariants.{Treated, Reported, Settled}
use Rattle.following.specs.declared.lock.Lock.{Lock}
use Rattle.following.specs.declared.lock.Lock.TheVariants.{Waiting, InCare, Done}
use Rattle.following.specs.Runs.{Does, Runs}
use Rattle.following.specs.Runs.Does.{treats, treats_not, reports, reports_not, settles, settles_not}
use Rattle.following.specs.Runs.Runs.{ends, goes, stops}
use Rattle.following.specs.Courses.{reported, settled_at, IsSettled, Totals, calls_along}
use Rattle.following.specs.Laws.{SettledCoursesArePossible, CoursesCanBeLed, FloorsAreMet}
use Rattle.following.proofs.Accepted.{begin_is, treat_is, report_is, settle_is, treats_so, reports_so, settles_so}
use Rattle.following.proofs.Totals.{plan, due_is, next_length, settles_the_course}
use Rattle.following.proofs.Covered.{least_at_first}

module _ (m : Model) (rs : List ℕ) (H : ℕ) where
  -- what was reported from a state on, to the settling, is a possible course to the last visit
  abbrev Whole : History → ℕ → List RoundCall → List Reply → Type 0
  Whole h s ds zs = IsSettled zs → (length h + length (reported ds zs) ≡ H) × Possible m (plan m rs) h s (reported ds zs)

  abbrev Course : Lock → List RoundCall → List Reply → Type 0
  Course (Waiting a) ds zs = (h : History) → a.visit ≡ suc (length h) → a.visits ≡ H → length h ≤ H → Whole h a.condition ds zs
  Course (InCare b) ds zs = (h : History) → b.visit ≡ suc (length h) → b.visits ≡ H → length h < H → b.remedy ≡ plan m rs h b.condition → Whole h b.condition ds zs
  Course Done ds zs = (reported ds zs ≡ []) × (settled_at zs ≡ [])

  course_does : (ds : List RoundCall) (zs : List Reply) {l l' : Lock} {d : RoundCall} {z : Reply} → Does m rs l d z l' → Course l' ds zs → Course l (d ∷ ds) (z ∷ zs)
  course_does ds zs (treats a b e) g = λ h n to l.
      let is = treat_is (offers m) rs a b e in
      let in_time : length h < H = let d = is.0 in omega arith in
      subst (λ (y : Treatment). Course (InCare y) ds zs) (sym is.1) g h n to in_time (due_is m rs a h n)
  course_does ds zs (treats_not a f e) g = g
  course_does ds zs (reports b j a e) g = λ h n to l r end.
      let is = report_is m b j a e in
      let moved : Course (Waiting (next_arrival m b j)) ds zs = subst (λ (y : Arrival). Course (Waiting y) ds zs) (sym is.2) g in
      let more = next_length m rs h b.condition in
      let some : 0 < m.share (suc (length h)) b.condition (plan m rs h b.condition) j = subst (λ (x : ℕ). 0 < x) (λ i. m.share (n i) b.condition (r i) j) is.1 in
      let rest = moved (onward (plan m rs) h b.condition) (ap suc n ∙ ap suc (sym more)) to (omega arith) end in
      let count = rest.0 in
      (omega arith, (is.0, some, rest.1))
  course_does ds zs (reports_not b j f e) g = g
  course_does ds zs (settles a z e) g = λ h n to l end.
      let late = (settle_is m a z e).0 in
      let none : length h + length {A = ℕ} [] ≡ H = omega arith in
      subst (λ (c : List ℕ). (length h + length c ≡ H) × Possible m (plan m rs) h a.condition c) (sym g.0) (none, tt)
  course_does ds zs (settles_not a f e) g = g

  course_end : (l : Lock) → Course l [] []
  course_end (Waiting a) = λ h n to l end. absurd (end refl)
  course_end (InCare b) = λ h n to l r end. absurd (end refl)
  course_end Done = (refl, refl)

  course_stop : (l : Lock) (d : RoundCall) (ds : List RoundCall) → Course l (d ∷ ds) []
  course_stop (Waiting a) d ds = λ h n to l end. absurd (end refl)
  course_stop (InCare b) d ds = λ h n to l r end. absurd (end refl)
  course_stop Done d ds = (refl, refl)

  pub course_runs : {l : Lock} {ds : List RoundCall} {zs : List Reply} → Runs m rs l ds zs → Course l ds zs
  course_runs (ends l) = course_end l
  course_runs (goes does run) = course_does _ _ does (course_runs run)
  course_runs (stops ds shut) = course_stop _ _ ds

  -- a round led along a course, from a state
  abbrev Along : Arrival → List ℕ → Type 0
  Along a c = (zs : List Reply) × (Runs m rs (Waiting a) (calls_along c) zs × IsSettled zs × (reported (calls_along c) zs ≡ c))

  module _ (lawful : Lawful m) (room : H * m.conditions ≤ length rs) (policy : Policy (offers m) H (plan m rs)) where
    led : (c : List ℕ) (a : Arrival) (h : History) → a.visit ≡ suc (length h) → a.visits ≡ H → length h + length c ≡ H → Within (offers m) h → a.condition < m.conditions → Possible m (plan m rs) h a.condition c → Along a c
    led [] a h n to l w i q =
        let does = settles a (final_total m a) (settles_so m a (omega arith) i) in
        (Settled (final_total m a) ∷ [], (goes does (ends Done), (λ e. cc), refl))
    led (j ∷ c) a h n to l w i q =
        let p = plan m rs h a.condition in
        let here = policy h a.condition (omega arith) w i in
        let low = (lawful.offered_inside _ a.condition p here).some_remedy in
        let e = due_is m rs a h n in
        let r = named_remedy (offers m) rs a in
        let b = treated_by a r in
        let d = next_arrival m b j in
        let more = next_length m rs h a.condition in
        let some : 0 < m.share a.visit a.condition r j = subst (λ (y : ℕ). 0 < y) (λ k. m.share (sym n k) a.condition (sym e k) j) q.1 in
        let offered : T (m.offered a.visit a.condition r) = subst T (λ k. m.offered (sym n k) a.condition (sym e k)) here in
        let long : a.visits * m.conditions ≤ length rs = subst (λ (x : ℕ). x * m.conditions ≤ length rs) (sym to) room in
        let inside : r < m.remedies = omega arith in
        let left : length (onward (plan m rs) h a.condition) + length c ≡ H = omega arith in
        let in_time : a.visit ≤ a.visits = omega arith in
        let first = treats a b (treats_so (offers m) rs a in_time i long (is_true _ offered)) in
        let second = reports b j d (reports_so m b j q.0 i inside some) in
        let rest = led c d (onward (plan m rs) h a.condition) (ap suc n ∙ ap suc (sym more)) to left (within_more (offers m) h _ w i low) q.0 q.2 in
        (Treated r ∷ Reported ∷ rest.0, (goes first (goes second rest.1.0), rest.1.1, ap (λ (y : List ℕ). j ∷ y) rest.1.2))

pub settled_courses_are_possible : SettledCoursesArePossible
settled_courses_are_possible m rs H s a e ds zs run end =
    let from : Runs m rs (Waiting (first_arrival H s)) ds zs = subst (λ (y : Arrival). Runs m rs (Waiting y) ds zs) (sym (begin_is (offers m) H s a e).0) run in
    let found = course_runs m rs H from [] refl refl (omega arith) end in
    let count = found.0 in
    (omega arith, found.1)

pub courses_can_be_led : CoursesCanBeLed
courses_can_be_led m rs H s a lawful e room policy c l q =
    let is = begin_is (offers m) H s a e in
    subst (λ (y : Arrival). Along m rs H y c) is.0 (led m rs H lawful room policy c (first_arrival H s) [] refl refl (omega arith) tt is.1 q)

pub floors_are_met : FloorsAreMet
floors_are_met m H n vs vs' rs rs' lawful plans s a e =
    let i = (begin_is (offers m) H s a e).1 in
    let least = planned_totals floor LeastTotals floors_are_totals m H lawful (Ok n) vs vs' rs rs' plans in
    let hit = (least_at_first m H s vs' rs' least i).hit in
    let room : H * m.conditions ≤ length rs' = omega (arith, plans.2.remedies_kept.long, plans.1.in_order.remedies_room) in
    let along = courses_can_be_led m rs' H s a lawful e room plans.2.policy hit.0 hit.1 hit.2 in
    (hit.0, (along.0, (along.1.0, along.1.1, subst (λ (z : ℤ). Totals z along.0) (ap (gain m (plan m rs') [] s) along.1.2 ∙ sym hit.3) (settles_the_course m rs' H s a e (calls_along hit.0) along.0 along.1.0))))
