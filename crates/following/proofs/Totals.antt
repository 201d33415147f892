-- A round settles at the total of the course that was reported.
use Rattle.std.proofs.Common.{◌≡◌, ℕ, suc, ◌+◌, ◌-◌, ◌*◌, List, [], ◌∷◌, length, get_or, ℤ, pos, ◌+ℤ◌, All, refl, sym, ap, ◌∙◌, subst, arith}
use Rattle.std.proofs.lemmas.Int.{ints}
use Rattle.std.proofs.lemmas.List.Elements.{All-nil, All-cons, All-same}
use Rattle.model.specs.Model.{Model, offers}
use Rattle.criteria.specs.Policies.{History, next_visit, Choice, onward, tabled}
use Rattle.criteria.specs.Expected.{gain}
use Rattle.criteria.proofs.Histories.{length_more}
use Rattle.rounds.specs.States.{Arrival, Treatment}
use Rattle.rounds.specs.Calls.{first_arrival, named_remedy, next_arrival}
use Rattle.following.specs.declared.call.RoundCall.{RoundCall}
use Rattle.following.specs.declared.call.Reply.{Reply}
use Rattle.following.specs.declared.lock.Lock.{Lock}
use Rattle.following.specs.declared.lock.Lock.TheVariants.{Waiting, InCare, Done}
use Rattle.following.specs.Runs.{Does, Runs}
use Rattle.following.specs.Runs.Does.{treats, treats_not, reports, reports_not, settles, settles_not}
use Rattle.following.specs.Runs.Runs.{ends, goes, stops}
use Rattle.following.specs.Courses.{reported, settled_at, Totals}
use Rattle.following.specs.Laws.{SettlesTheCourse}
use Rattle.following.proofs.Accepted.{begin_is, treat_is, report_is, settle_is}

pub only_one : (P : ℤ → Type 0) (v : ℤ) (vs : List ℤ) → vs ≡ [] → P v → All P (v ∷ vs)
only_one P v vs none one = All-cons P v vs one (All-same P vs [] none (All-nil P))

module _ (m : Model) (rs : List ℕ) where
  abbrev pub plan : Choice
  plan = tabled (offers m) rs

  -- the remedy that the table names for the lock is the one that its policy names after any history of that length
  pub due_is : (a : Arrival) (h : History) → a.visit ≡ suc (length h) → named_remedy (offers m) rs a ≡ plan h a.condition
  due_is a h v = let less : a.visit - 1 ≡ length h = omega arith in ap (λ (x : ℕ). get_or rs (x * m.conditions + a.condition) 0) less

  pub next_length : (h : History) (s : ℕ) → length (onward plan h s) ≡ suc (length h)
  next_length h s = length_more h _

  regrouped : (x y z : ℤ) → (x +ℤ y) +ℤ z ≡ x +ℤ (y +ℤ z)
  regrouped x y z = omega (arith, ints)

  -- what is collected and what is still gained: the same before and after a report
  pub carried : (b : Treatment) (h : History) (j : ℕ) (c : List ℕ) → b.visit ≡ suc (length h) → b.remedy ≡ plan h b.condition →
      (next_arrival m b j).collected +ℤ gain m plan (onward plan h b.condition) j c ≡ b.collected +ℤ gain m plan h b.condition (j ∷ c)
  carried b h j c v r =
      ap (λ (x : ℤ). (b.collected +ℤ x) +ℤ gain m plan (onward plan h b.condition) j c) (λ i. m.amount (v i) b.condition (r i) j)
      ∙ regrouped b.collected (m.amount (next_visit h) b.condition (plan h b.condition) j) (gain m plan (onward plan h b.condition) j c)

  -- the totals of a run from a state
  abbrev Good : Lock → List RoundCall → List Reply → Type 0
  Good (Waiting a) ds zs = (h : History) → a.visit ≡ suc (length h) → Totals (a.collected +ℤ gain m plan h a.condition (reported ds zs)) zs
  Good (InCare b) ds zs = (h : History) → b.visit ≡ suc (length h) → b.remedy ≡ plan h b.condition → Totals (b.collected +ℤ gain m plan h b.condition (reported ds zs)) zs
  Good Done ds zs = (settled_at zs ≡ []) × (reported ds zs ≡ [])

  good_does : (ds : List RoundCall) (zs : List Reply) {l l' : Lock} {d : RoundCall} {z : Reply} → Does m rs l d z l' → Good l' ds zs → Good l (d ∷ ds) (z ∷ zs)
  good_does ds zs (treats a b e) g = λ h v. subst (λ (y : Treatment). Good (InCare y) ds zs) (sym (treat_is (offers m) rs a b e).1) g h v (due_is a h v)
  good_does ds zs (treats_not a f e) g = g
  good_does ds zs (reports b j a e) g = λ h v r.
      let moved : Good (Waiting (next_arrival m b j)) ds zs = subst (λ (y : Arrival). Good (Waiting y) ds zs) (sym (report_is m b j a e).2) g in
      subst (λ (z : ℤ). Totals z zs) (carried b h j (reported ds zs) v r) (moved (onward plan h b.condition) (ap suc v ∙ ap suc (sym (next_length h b.condition))))
  good_does ds zs (reports_not b j f e) g = g
  good_does ds zs (settles a z e) g = λ h v.
      let same = sym (settle_is m a z e).1 ∙ ap (λ (c : List ℕ). a.collected +ℤ gain m plan h a.condition c) (sym g.1) in
      only_one (λ (x : ℤ). x ≡ a.collected +ℤ gain m plan h a.condition (reported ds zs)) z (settled_at zs) g.0 same
  good_does ds zs (settles_not a f e) g = g

  good_end : (l : Lock) → Good l [] []
  good_end (Waiting a) = λ h v. All-nil _
  good_end (InCare b) = λ h v r. All-nil _
  good_end Done = (refl, refl)

  good_stop : (l : Lock) (d : RoundCall) (ds : List RoundCall) → Good l (d ∷ ds) []
  good_stop (Waiting a) d ds = λ h v. All-nil _
  good_stop (InCare b) d ds = λ h v r. All-nil _
  good_stop Done d ds = (refl, refl)

  pub good_runs : {l : Lock} {ds : List RoundCall} {zs : List Reply} → Runs m rs l ds zs → Good l ds zs
  good_runs (ends l) = good_end l
  good_runs (goes does run) = good_does _ _ does (good_runs run)
  good_runs (stops ds shut) = good_stop _ _ ds

pub nothing_got : (z : ℤ) → pos 0 +ℤ z ≡ z
nothing_got z = omega (arith, ints)

pub settles_the_course : SettlesTheCourse
settles_the_course m rs H s a e ds zs run =
    let from : Runs m rs (Waiting (first_arrival H s)) ds zs = subst (λ (y : Arrival). Runs m rs (Waiting y) ds zs) (sym (begin_is (offers m) H s a e).0) run in
    subst (λ (z : ℤ). Totals z zs) (nothing_got _) (good_runs m rs from [] refl)
