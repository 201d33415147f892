-- No settling of a round that follows a plan by the floor is below the value planned where it began.
use Rattle.std.proofs.Common.{◌≡◌, ℕ, suc, ◌+◌, ◌<◌, ◌≤◌, List, [], ◌∷◌, length, ℤ, ◌+ℤ◌, ◌≤ℤ◌, Ok, refl, sym, ap, ◌∙◌, subst, arith}
use Rattle.std.proofs.lemmas.List.Elements.{All-nil}
use Rattle.model.specs.Model.{Model, offers}
use Rattle.criteria.specs.Policies.{History, onward}
use Rattle.criteria.specs.Expected.{gain}
use Rattle.criteria.specs.Floor.{floor}
use Rattle.criteria.specs.Least.{Possible, Least}
use Rattle.totals.specs.Totals.{LeastTotals}
use Rattle.totals.specs.Floors.{floors_are_totals}
use Rattle.totals.proofs.Behind.{planned_totals}
use Rattle.rounds.specs.States.{Arrival, Treatment}
use Rattle.rounds.specs.Calls.{first_arrival, to_begin, next_arrival}
use Rattle.following.specs.declared.call.RoundCall.{RoundCall}
use Rattle.following.specs.declared.call.Reply.{Reply}
use Rattle.following.specs.declared.lock.Lock.{Lock}
use Rattle.following.specs.declared.lock.Lock.TheVariants.{Waiting, InCare, Done}
use Rattle.following.specs.Runs.{Does, Runs}
use Rattle.following.specs.Runs.Does.{treats, treats_not, reports, reports_not, settles, settles_not}
use Rattle.following.specs.Runs.Runs.{ends, goes, stops}
use Rattle.following.specs.Courses.{settled_at, AtLeast}
use Rattle.following.specs.declared.call.Turn.{Turn}
use Rattle.following.specs.Following.{calls_of, planned_floor, LeadsOn, Led}
use Rattle.following.specs.Laws.{RoundsAreCovered}
use Rattle.following.proofs.Accepted.{begin_is, treat_is, report_is, settle_is}
use Rattle.following.proofs.Totals.{only_one, plan, due_is, next_length, carried, nothing_got}

-- v is no more than what is collected and gained on any possible course to the last of H visits
module _ (m : Model) (rs : List ℕ) (v : ℤ) (H : ℕ) where
  abbrev LeastFrom : History → ℕ → ℤ → Type 0
  LeastFrom h s got = (c : List ℕ) → length h + length c ≡ H → Possible m (plan m rs) h s c → v ≤ℤ (got +ℤ gain m (plan m rs) h s c)

  abbrev Cover : Lock → List Reply → Type 0
  Cover (Waiting a) zs = (h : History) → a.visit ≡ suc (length h) → a.visits ≡ H → length h ≤ H → LeastFrom h a.condition a.collected → AtLeast v zs
  Cover (InCare b) zs = (h : History) → b.visit ≡ suc (length h) → b.visits ≡ H → length h < H → b.remedy ≡ plan m rs h b.condition → LeastFrom h b.condition b.collected → AtLeast v zs
  Cover Done zs = settled_at zs ≡ []

  cover_does : (zs : List Reply) {l l' : Lock} {d : RoundCall} {z : Reply} → Does m rs l d z l' → Cover l' zs → Cover l (z ∷ zs)
  cover_does zs (treats a b e) g = λ h n to l low.
      let is = treat_is (offers m) rs a b e in
      let in_time : length h < H = let d = is.0 in omega arith in
      subst (λ (y : Treatment). Cover (InCare y) zs) (sym is.1) g h n to in_time (due_is m rs a h n) low
  cover_does zs (treats_not a f e) g = g
  cover_does zs (reports b j a e) g = λ h n to l r low.
      let is = report_is m b j a e in
      let moved : Cover (Waiting (next_arrival m b j)) zs = subst (λ (y : Arrival). Cover (Waiting y) zs) (sym is.2) g in
      let more = next_length m rs h b.condition in
      let some : 0 < m.share (suc (length h)) b.condition (plan m rs h b.condition) j = subst (λ (x : ℕ). 0 < x) (λ i. m.share (n i) b.condition (r i) j) is.1 in
      moved (onward (plan m rs) h b.condition) (ap suc n ∙ ap suc (sym more)) to (omega arith)
      (λ c e' q. subst (λ (z : ℤ). v ≤ℤ z) (sym (carried m rs b h j c n r)) (low (j ∷ c) (omega arith) (is.0, some, q)))
  cover_does zs (reports_not b j f e) g = g
  cover_does zs (settles a z e) g = λ h n to l low.
      let is = settle_is m a z e in
      let late = is.0 in
      only_one (λ (x : ℤ). v ≤ℤ x) z (settled_at zs) g (subst (λ (y : ℤ). v ≤ℤ y) is.1 (low [] (omega arith) tt))
  cover_does zs (settles_not a f e) g = g

  cover_none : (l : Lock) → Cover l []
  cover_none (Waiting a) = λ h n to l low. All-nil _
  cover_none (InCare b) = λ h n to l r low. All-nil _
  cover_none Done = refl

  pub cover_runs : {l : Lock} {ds : List RoundCall} {zs : List Reply} → Runs m rs l ds zs → Cover l zs
  cover_runs (ends l) = cover_none l
  cover_runs (goes does run) = cover_does _ does (cover_runs run)
  cover_runs (stops ds shut) = cover_none _

-- the value of a table of least totals where the round begins
pub least_at_first : (m : Model) (H s : ℕ) (vs : List ℤ) (rs : List ℕ) → LeastTotals m H rs vs → s < m.conditions → Least m (plan m rs) H [] s (planned_floor m vs 1 s)
least_at_first m H s vs rs least i = least [] H s (omega arith) tt i

-- a run from the first arrival
pub covered_from : (m : Model) (H s : ℕ) (vs : List ℤ) (rs : List ℕ) → LeastTotals m H rs vs → s < m.conditions → (ds : List RoundCall) (zs : List Reply) → Runs m rs (Waiting (first_arrival H s)) ds zs → AtLeast (planned_floor m vs 1 s) zs
covered_from m H s vs rs least i ds zs run =
    let v = planned_floor m vs 1 s in
    let low = (least_at_first m H s vs rs least i).low in
    cover_runs m rs v H run [] refl refl (omega arith) (λ c l q. subst (λ (z : ℤ). v ≤ℤ z) (sym (nothing_got _)) (low c (omega arith) q))

pub rounds_are_covered_lem : RoundsAreCovered
rounds_are_covered_lem m H n vs vs' rs rs' lawful plans s a e ds zs run =
    let is = begin_is (offers m) H s a e in
    let least = planned_totals floor LeastTotals floors_are_totals m H lawful (Ok n) vs vs' rs rs' plans in
    covered_from m H s vs' rs' least is.1 ds zs (subst (λ (y : Arrival). Runs m rs' (Waiting y) ds zs) (sym is.0) run)

-- what a round is that was planned, begun and led
pub led_as_planned : (m : Model) (H s n : ℕ) (vs' : List ℤ) (rs' : List ℕ) (ts ts' : List Turn) (a : Arrival) → LeadsOn m rs' (Waiting a) n ts ts' → Ok a ≡ to_begin (offers m) H s → LeastTotals m H rs' vs' → Led m H s n vs' rs' ts ts'
led_as_planned m H s n vs' rs' ts ts' a leads e least =
    let is = begin_is (offers m) H s a (sym e) in
    let from = subst (λ (y : Arrival). LeadsOn m rs' (Waiting y) n ts ts') (sym is.0) leads in
    record { condition = is.1; leads = from; covered = covered_from m H s vs' rs' least is.1 (calls_of ts) from.replies from.runs }
