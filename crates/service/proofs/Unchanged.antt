-- A declined call changes nothing.
use Rattle.std.proofs.Common.{◌≡◌, ℕ, not, ◌||◌, List, length, refl, sym, ap, subst, ◌∙◌, Ok, Err}
use Rattle.std.proofs.Math.Nat.{ℕ_set}
use Rattle.std.proofs.lemmas.Bool.{cond_both}
use Rattle.std.proofs.lemmas.List.{with_items_is}
use Rattle.std.specs.Prelude.{Result, nat_le, ℤ}
use Rattle.std.specs.Vec.{with_items}
use Rattle.std.specs.declared.vec.Vec.{Vec}
use Rattle.std.specs.declared.alloc.Global.{Global}
use Rattle.model.specs.Model.{Model, offers}
use Rattle.criteria.specs.Criteria.{Ops}
use Rattle.sheets.specs.declared.note.Note.{Note}
use Rattle.sheets.specs.declared.note.Visits.{Visits}
use Rattle.sheets.specs.declared.refusal.NoteRefusal.{NoteRefusal}
use Rattle.sheets.specs.Notes.{noted}
use Rattle.sheets.specs.Calls.{Answered, misspanned, too_dear, entering, to_bar, to_surcharge, to_prolong, to_lift, stands_at, note_at, until}
use Rattle.checks.specs.declared.refusal.PlanRefusal.{PlanRefusal}
use Rattle.planning.specs.Plans.{PlanAnswers}
use Rattle.planning.specs.Judgements.{JudgeAnswers}
use Rattle.following.specs.declared.call.Turn.{Turn}
use Rattle.following.specs.declared.follow.Unfollowed.{Unfollowed}
use Rattle.following.specs.declared.follow.Unfollowed.TheVariants as unfollowed
use Rattle.following.specs.Following.{RoundAnswers}
use Rattle.service.specs.declared.call.Call.{Call}
use Rattle.service.specs.declared.call.Call.TheVariants.{Bar, Surcharge, Prolong, Lift, Judge, Plan, Round}
use Rattle.service.specs.declared.call.CallRefusal.{CallRefusal}
use Rattle.service.specs.declared.call.CallRefusal.TheVariants as refusal
use Rattle.service.specs.Calls.{standing}
use Rattle.service.specs.Serving.{of_notes, of_plans, of_rounds, Rewritten, Answers}
use Rattle.service.specs.Laws.{BeforeAnyTable, DeclinedIsUnchanged}

-- a table whose entries are written over by themselves
with_its_own : {X : Type 0} (v : Vec X Global) → with_items v v.items ≡ v
with_its_own {X} v =
    let same = with_items_is v v.items (sym v.ok.0) in
    let F : (its : List X) → v.len ≡ length its → Vec X Global = λ its q. record { ptr = v.ptr; len = v.len; cap = v.cap; alloc = v.alloc; items = its; ok = (q, v.ok.1); small = v.small } in
    let P : List X → Type 0 = λ its. (q : v.len ≡ length its) → F its q ≡ v in
    subst P (sym same) (λ q. ap (F v.items) (ℕ_set _ _ q v.ok.0)) (with_items v v.items).ok.0

-- a table whose entries are as they were
same_table : {X : Type 0} (v w : Vec X Global) → Rewritten v w → w.items ≡ v.items → w ≡ v
same_table v w h e = h ∙ ap (with_items v) e ∙ with_its_own v

never : {P : Type 0} (f : CallRefusal) (n : ℕ) → ◌≡◌ {A = Result ℕ CallRefusal} (Err f) (Ok n) → P
never f n e = cc

-- what a call answers of notes, and the notes after it: declined, they are the notes before it
Leaves : List Note → Answered → Type 0
Leaves ns p = (f : CallRefusal) → Err f ≡ of_notes p.0 → p.1 ≡ ns

declines : (ns : List Note) (f : NoteRefusal) → Leaves ns (Err f, ns)
unfolding Leaves
declines ns f = λ e h. refl

accepts : (ns ns' : List Note) (n : ℕ) → Leaves ns (Ok n, ns')
unfolding Leaves
accepts ns ns' n = λ f h. never f n h

entering_leaves : (ns : List Note) (x : Note) → Leaves ns (entering ns x)
entering_leaves ns x = cond_both (nat_le 24 (length ns)) _ _ (Leaves ns) (λ _. declines ns _) (λ _. accepts ns _ _)

bar_leaves : (m : Model) (ns : List Note) (s r : ℕ) (v : Visits) → Leaves ns (to_bar (offers m) ns s r v)
bar_leaves m ns s r v =
    cond_both (nat_le m.conditions s || nat_le m.remedies r) _ _ (Leaves ns) (λ _. declines ns _)
    (λ _. cond_both (misspanned v) _ _ (Leaves ns) (λ _. declines ns _) (λ _. entering_leaves ns _))

surcharge_leaves : (m : Model) (ns : List Note) (r : ℕ) (a : ℤ) (v : Visits) → Leaves ns (to_surcharge (offers m) ns r a v)
surcharge_leaves m ns r a v =
    cond_both (nat_le m.remedies r) _ _ (Leaves ns) (λ _. declines ns _)
    (λ _. cond_both (misspanned v) _ _ (Leaves ns) (λ _. declines ns _)
    (λ _. cond_both (too_dear a) _ _ (Leaves ns) (λ _. declines ns _) (λ _. entering_leaves ns _)))

prolong_leaves : (ns : List Note) (p l : ℕ) → Leaves ns (to_prolong ns p l)
prolong_leaves ns p l =
    cond_both (not (stands_at ns p)) _ _ (Leaves ns) (λ _. declines ns _)
    (λ _. cond_both (misspanned (until (note_at ns p).visits l)) _ _ (Leaves ns) (λ _. declines ns _) (λ _. accepts ns _ _))

lift_leaves : (ns : List Note) (p : ℕ) → Leaves ns (to_lift ns p)
lift_leaves ns p = cond_both (not (stands_at ns p)) _ _ (Leaves ns) (λ _. declines ns _) (λ _. accepts ns _ _)

module _ {C V A : Type 0} (ops : C → Ops V A) (m : Model) (ns : List Note) where
  judgement_kept : (c : C) (H : ℕ) (vs : Vec V Global) (rs : Vec ℕ Global) (f : CallRefusal) (x : Result ℕ PlanRefusal) (vs' : Vec V Global) → Err f ≡ of_plans x → Rewritten vs vs' → JudgeAnswers (ops c) (noted m ns) H x vs.items vs'.items rs.items → vs' ≡ vs
  judgement_kept c H vs rs f (Ok n) vs' e h j = never f n e
  judgement_kept c H vs rs f (Err g) vs' e h j = same_table vs vs' h j.2

  plan_kept : (c : C) (H : ℕ) (vs : Vec V Global) (rs : Vec ℕ Global) (f : CallRefusal) (x : Result ℕ PlanRefusal) (vs' : Vec V Global) (rs' : Vec ℕ Global) → Err f ≡ of_plans x → Rewritten vs vs' → Rewritten rs rs' → PlanAnswers (ops c) (noted m ns) H x vs.items vs'.items rs.items rs'.items → (vs' ≡ vs) × (rs' ≡ rs)
  plan_kept c H vs rs f (Ok n) vs' rs' e h h' j = never f n e
  plan_kept c H vs rs f (Err g) vs' rs' e h h' j = (same_table vs vs' h j.2, same_table rs rs' h' j.3)

  round_kept : (H s : ℕ) (vs : Vec ℤ Global) (rs : Vec ℕ Global) (ts : Vec Turn Global) (f : CallRefusal) (x : Result ℕ Unfollowed) (vs' : Vec ℤ Global) (rs' : Vec ℕ Global) (ts' : Vec Turn Global) → Err f ≡ of_rounds x → BeforeAnyTable f → Rewritten vs vs' → Rewritten rs rs' → Rewritten ts ts' → RoundAnswers (noted m ns) H s x vs.items vs'.items rs.items rs'.items ts.items ts'.items → (vs' ≡ vs) × (rs' ≡ rs) × (ts' ≡ ts)
  round_kept H s vs rs ts f (Ok n) vs' rs' ts' e k hv hr ht j = never f n e
  round_kept H s vs rs ts f (Err (unfollowed.Plan g)) vs' rs' ts' e k hv hr ht j = (same_table vs vs' hv j.0.2, same_table rs rs' hr j.0.3, same_table ts ts' ht j.1)
  round_kept H s vs rs ts f (Err (unfollowed.Begin g)) vs' rs' ts' e k hv hr ht j =
      let same : f ≡ refusal.Round (unfollowed.Begin g) = cc in
      absurd (subst BeforeAnyTable same k)

  unchanged : (c back : Call C V) (f : CallRefusal) → Answers ops m ns c (Err f) back → (standing m ns c ≡ ns) × (BeforeAnyTable f → back ≡ c)
  unfolding Leaves
  unchanged (Bar s r k l) back f p = (bar_leaves m ns s r (record { first = k; last = l }) f p.0, λ b. p.1)
  unchanged (Surcharge r a k l) back f p = (surcharge_leaves m ns r a (record { first = k; last = l }) f p.0, λ b. p.1)
  unchanged (Prolong k l) back f p = (prolong_leaves ns k l f p.0, λ b. p.1)
  unchanged (Lift k) back f p = (lift_leaves ns k f p.0, λ b. p.1)
  unchanged (Judge c H vs rs) back f p =
      let values = judgement_kept c H vs rs f p.answer p.values p.answered p.values_written p.judged in
      (refl, λ b. p.given_back ∙ ap (λ ws. Judge c H ws rs) values)
  unchanged (Plan c H vs rs) back f p =
      let kept = plan_kept c H vs rs f p.answer p.values p.remedies p.answered p.values_written p.remedies_written p.planned in
      (refl, λ b. p.given_back ∙ (λ k. Plan c H (kept.0 k) (kept.1 k)))
  unchanged (Round H s vs rs ts) back f p = (
    refl,
    λ b.
        let kept = round_kept H s vs rs ts f p.answer p.values p.remedies p.turns p.answered b p.values_written p.remedies_written p.turns_written p.led in
        p.given_back ∙ (λ k. Round H s (kept.0 k) (kept.1 k) (kept.2 k)),
  )

pub declined_is_unchanged : {C V A : Type 0} (ops : C → Ops V A) → DeclinedIsUnchanged ops
declined_is_unchanged ops m ns c back f p = unchanged ops m ns c back f p
