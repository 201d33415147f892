-- The plans of a book that means what the worked lock means.
use Rattle.std.proofs.Common.{◌≡◌, ℕ, suc, Bool, sym, ◌+◌, ◌*◌, ◌&&◌, T, List, length, ℤ, Ok, Err, Result, refl, subst}
use Rattle.model.specs.Model.{Model, Lawful}
use Rattle.model.specs.Tables.{KeptPast}
use Rattle.books.specs.declared.list.ListBook.{ListBook}
use Rattle.books.specs.Means.{list_means}
use Rattle.books.specs.Lawfuls.{list_book_lawful}
use Rattle.sheets.specs.declared.note.Note.{Note}
use Rattle.sheets.specs.Notes.{noted}
use Rattle.sheets.specs.Keeping.{noted_lawful}
use Rattle.criteria.specs.Criteria.{Ops, Laws}
use Rattle.criteria.specs.Mean.{mean, at_least}
use Rattle.criteria.specs.Floor.{floor}
use Rattle.criteria.specs.Keeping.{floor_lawful}
use Rattle.checks.specs.declared.refusal.PlanRefusal.{PlanRefusal}
use Rattle.checks.specs.declared.refusal.PlanRefusal.TheVariants.{Fine, Stuck}
use Rattle.planning.specs.Plans.{PlanAnswers}
use Rattle.planning.proofs.Determined.{plan_seen}
use Rattle.planning.proofs.Refused.{PlanView, one_plan}
use Rattle.planning.proofs.Refused.PlanView.{at_stuck_plan, at_fine_plan, at_accepted_plan}
use Rattle.lock.specs.Lock.{worked_lock}
use Rattle.lock.specs.Noted.{Answered}
use Rattle.lock.proofs.Deciding.{accept_test, accepted, fine_test, too_fine, stuck_test, stuck, tables_test, plan_is}

module _ (o : Ops ℤ ℤ) (better : ℤ → ℤ → Type 0) (laws : Laws o better) (m : Model) (lawful : Lawful m) (n : Model) (same : m ≡ n) where
  pub planned_as : (H : ℕ) (vs ws : List ℤ) (rs qs : List ℕ) → T (accept_test n H (length vs) (length rs) && tables_test o n H ws qs) → KeptPast ((H + 1) * n.conditions) vs ws → KeptPast (H * n.conditions) rs qs →
      (a : Result ℕ PlanRefusal) (vs' : List ℤ) (rs' : List ℕ) → PlanAnswers o m H a vs vs' rs rs' → (a ≡ Ok (H * n.conditions)) × (vs' ≡ ws) × (rs' ≡ qs)
  planned_as H vs ws rs qs test kept_v kept_r a vs' rs' plan =
      plan_is o better laws n H (subst Lawful same lawful) vs ws rs qs test kept_v kept_r a vs' rs' (subst (λ x. PlanAnswers o x H a vs vs' rs rs') same plan)

-- a book that means what the worked lock means, under notes
module _ (b : ListBook) (ns xs : List Note) (e : list_means b ≡ worked_lock) (f : ns ≡ xs) where
  under_notes : noted (list_means b) ns ≡ noted worked_lock xs
  under_notes = λ i. noted (e i) (f i)

  lawfully : Lawful (noted (list_means b) ns)
  lawfully = noted_lawful (list_means b) ns (list_book_lawful b)

  pub floor_planned_as : (H : ℕ) (vs ws : List ℤ) (rs qs : List ℕ) → T (accept_test (noted worked_lock xs) H (length vs) (length rs) && tables_test floor (noted worked_lock xs) H ws qs) → KeptPast ((H + 1) * 4) vs ws → KeptPast (H * 4) rs qs →
      (a : Result ℕ PlanRefusal) (vs' : List ℤ) (rs' : List ℕ) → PlanAnswers floor (noted (list_means b) ns) H a vs vs' rs rs' → (a ≡ Ok (H * 4)) × (vs' ≡ ws) × (rs' ≡ qs)
  floor_planned_as = planned_as floor at_least floor_lawful _ lawfully _ under_notes

  -- what a plan answers is what its checks answer
  pub answered_as : (o : Ops ℤ ℤ) (H : ℕ) (vs vs' : List ℤ) (rs rs' : List ℕ) (a z : Result ℕ PlanRefusal) → PlanView (noted worked_lock xs) H (length vs) (length rs) z → PlanAnswers o (noted (list_means b) ns) H a vs vs' rs rs' → a ≡ z
  answered_as o H vs vs' rs rs' a z ours plan =
      one_plan (noted worked_lock xs) H (length vs) (length rs) (plan_seen o (noted worked_lock xs) H (subst Lawful under_notes lawfully) vs vs' rs rs' a (subst (λ m. PlanAnswers o m H a vs vs' rs rs') under_notes plan)) ours

  pub accepted_as : (o : Ops ℤ ℤ) (H : ℕ) (vs vs' : List ℤ) (rs rs' : List ℕ) (a : Result ℕ PlanRefusal) → T (accept_test (noted worked_lock xs) H (length vs) (length rs)) → PlanAnswers o (noted (list_means b) ns) H a vs vs' rs rs' → a ≡ Ok (H * 4)
  accepted_as o H vs vs' rs rs' a test plan =
      let taken = accepted (noted worked_lock xs) H (length vs) (length rs) (subst Lawful under_notes lawfully) test in
      answered_as o H vs vs' rs rs' a (Ok (H * 4)) (at_accepted_plan (H * 4) refl taken.in_order taken.openly taken.evenly taken.fitting) plan

  pub fine_as : (o : Ops ℤ ℤ) (H : ℕ) (vs vs' : List ℤ) (rs rs' : List ℕ) (a : Result ℕ PlanRefusal) → T (fine_test (noted worked_lock xs) H (length vs) (length rs)) → PlanAnswers o (noted (list_means b) ns) H a vs vs' rs rs' → a ≡ Err Fine
  fine_as o H vs vs' rs rs' a test plan =
      let why = too_fine (noted worked_lock xs) H (length vs) (length rs) (subst Lawful under_notes lawfully) test in
      answered_as o H vs vs' rs rs' a (Err Fine) (at_fine_plan why.0 why.1 why.2 why.3) plan

  pub stuck_as : (o : Ops ℤ ℤ) (H past s : ℕ) (vs vs' : List ℤ) (rs rs' : List ℕ) (a : Result ℕ PlanRefusal) → T (stuck_test (noted worked_lock xs) H (length vs) (length rs) past s) → PlanAnswers o (noted (list_means b) ns) H a vs vs' rs rs' → a ≡ Err (Stuck (suc past) s)
  stuck_as o H past s vs vs' rs rs' a test plan =
      let why = stuck (noted worked_lock xs) H (length vs) (length rs) past s (subst Lawful under_notes lawfully) test in
      answered_as o H vs vs' rs rs' a (Err (Stuck (suc past) s)) (at_stuck_plan (suc past) s why.0 why.1) plan

  module _ (H : ℕ) (a : Result ℕ PlanRefusal) (x : Answered (noted (list_means b) ns) H a) where
    at_lengths : (t : ℕ → ℕ → Bool) → T (t 196 192) → T (t (length x.values_before) (length x.remedies_before))
    at_lengths t h = subst (λ v. T (t v (length x.remedies_before))) (sym x.values_long) (subst (λ w. T (t 196 w)) (sym x.remedies_long) h)

    pub accepted_of : T (accept_test (noted worked_lock xs) H 196 192) → a ≡ Ok (H * 4)
    accepted_of h = accepted_as mean H x.values_before x.values_after x.remedies_before x.remedies_after a (at_lengths (λ v w. accept_test (noted worked_lock xs) H v w) h) x.plan

    pub fine_of : T (fine_test (noted worked_lock xs) H 196 192) → a ≡ Err Fine
    fine_of h = fine_as mean H x.values_before x.values_after x.remedies_before x.remedies_after a (at_lengths (λ v w. fine_test (noted worked_lock xs) H v w) h) x.plan

    pub stuck_of : (past s : ℕ) → T (stuck_test (noted worked_lock xs) H 196 192 past s) → a ≡ Err (Stuck (suc past) s)
    stuck_of past s h = stuck_as mean H past s x.values_before x.values_after x.remedies_before x.remedies_after a (at_lengths (λ v w. stuck_test (noted worked_lock xs) H v w past s) h) x.plan
