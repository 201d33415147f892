-- The answer of a round, both tables and the turns follow from what was brought.
use Rattle.std.proofs.Common.{◌≡◌, ℕ, ◌<◌, List, length, ℤ, Ok, Err, Result, sym, ap, ◌∙◌, subst}
use Rattle.model.specs.Model.{Model, Lawful, offers}
use Rattle.criteria.specs.Floor.{floor}
use Rattle.checks.specs.Acceptance.{PlanAccepted}
use Rattle.checks.specs.declared.refusal.PlanRefusal.{PlanRefusal}
use Rattle.planning.specs.Plans.{PlanAnswers}
use Rattle.planning.proofs.Determined.{plans_are_determined}
use Rattle.rounds.specs.Calls.{first_arrival, to_begin}
use Rattle.rounds.specs.declared.refusal.RoundRefusal.{RoundRefusal}
use Rattle.following.specs.declared.call.Turn.{Turn}
use Rattle.following.specs.declared.lock.Lock.{Lock}
use Rattle.following.specs.declared.lock.Lock.TheVariants.{Waiting}
use Rattle.following.specs.declared.follow.Unfollowed.{Unfollowed}
use Rattle.following.specs.declared.follow.Unfollowed.TheVariants.{Plan, Begin}
use Rattle.following.specs.Following.{calls_of, turns_of, LeadsOn, RoundAnswers}
use Rattle.following.specs.Laws.{RoundsAreDetermined}
use Rattle.following.proofs.Accepted.{begins_so}
use Rattle.following.proofs.Determined.{runs_are_determined}

led_so : (m : Model) (rs : List ℕ) (l : Lock) (n n' : ℕ) (ts ts' us' : List Turn) → LeadsOn m rs l n ts ts' → LeadsOn m rs l n' ts us' → (n ≡ n') × (ts' ≡ us')
led_so m rs l n n' ts ts' us' a b =
    let only = (runs_are_determined m rs l (calls_of ts)).1.1 in
    let same = only a.replies a.runs ∙ sym (only b.replies b.runs) in
    (sym a.count ∙ ap length same ∙ b.count, a.turns ∙ ap (turns_of (calls_of ts)) same ∙ sym b.turns)

-- a round that was led was begun
begun : {P : Type 0} (m : Model) (H s v w : ℕ) (f : RoundRefusal) → PlanAccepted m H v w → s < m.conditions → to_begin (offers m) H s ≡ Err f → P
begun m H s v w f plan own e =
    let begins = begins_so (offers m) H s plan.in_order.some plan.in_order.few own in
    cc

module _ (m : Model) (H s : ℕ) (vs vs' ws' : List ℤ) (rs rs' qs' : List ℕ) (lawful : Lawful m) where
  planned : (a b : Result ℕ PlanRefusal) → PlanAnswers floor m H a vs vs' rs rs' → PlanAnswers floor m H b vs ws' rs qs' → (a ≡ b) × (vs' ≡ ws') × (rs' ≡ qs')
  planned = λ a b. plans_are_determined floor m H vs vs' ws' rs rs' qs' a b lawful

  determined : (ts ts' us' : List Turn) (x y : Result ℕ Unfollowed) → RoundAnswers m H s x vs vs' rs rs' ts ts' → RoundAnswers m H s y vs ws' rs qs' ts us' → (x ≡ y) × (vs' ≡ ws') × (rs' ≡ qs') × (ts' ≡ us')
  determined ts ts' us' (Ok n) (Ok n') (a, c) (b, d) =
      let same = planned (Ok _) (Ok _) a b in
      let led = led_so m qs' (Waiting (first_arrival H s)) n n' ts ts' us' (subst (λ (r : List ℕ). LeadsOn m r (Waiting (first_arrival H s)) n ts ts') same.2 c.leads) d.leads in
      (ap Ok led.0, same.1, same.2, led.1)
  determined ts ts' us' (Ok n) (Err (Plan g)) (a, c) (b, kept) = let same = (planned (Ok _) (Err g) a b).0 in cc
  determined ts ts' us' (Ok n) (Err (Begin g)) (a, c) (b, e, kept) = begun m H s _ _ g a.1 c.condition e
  determined ts ts' us' (Err (Plan f)) (Ok n') (a, kept) (b, d) = let same = (planned (Err f) (Ok _) a b).0 in cc
  determined ts ts' us' (Err (Plan f)) (Err (Plan g)) (a, kept) (b, kept') =
      let same = planned (Err f) (Err g) a b in
      let e = same.0 in
      let why : f ≡ g = cc in
      (ap (λ (k : PlanRefusal). Err (Plan k)) why, same.1, same.2, kept ∙ sym kept')
  determined ts ts' us' (Err (Plan f)) (Err (Begin g)) (a, kept) (b, e, kept') = let same = (planned (Err f) (Ok _) a b).0 in cc
  determined ts ts' us' (Err (Begin f)) (Ok n') (a, e, kept) (b, d) = begun m H s _ _ f b.1 d.condition e
  determined ts ts' us' (Err (Begin f)) (Err (Plan g)) (a, e, kept) (b, kept') = let same = (planned (Ok _) (Err g) a b).0 in cc
  determined ts ts' us' (Err (Begin f)) (Err (Begin g)) (a, e, kept) (b, e', kept') =
      let same = planned (Ok _) (Ok _) a b in
      let both = sym e ∙ e' in
      let why : f ≡ g = cc in
      (ap (λ (k : RoundRefusal). Err (Begin k)) why, same.1, same.2, kept ∙ sym kept')

pub rounds_are_determined : RoundsAreDetermined
rounds_are_determined m H s vs vs' ws' rs rs' qs' ts ts' us' x y lawful = determined m H s vs vs' ws' rs rs' qs' lawful ts ts' us' x y
