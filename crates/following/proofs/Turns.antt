-- Turns one after another, as the loop over them goes.
use Rattle.std.proofs.Common.{◌≡◌, ℕ, ◌+◌, ◌<◌, ◌≤◌, Bool, is_some, List, [], ◌∷◌, ◌++◌, length, get_or, take, drop, Option, Some, None, refl, sym, ap, ◌∙◌, subst, arith}
use Rattle.std.proofs.Math.ListN.{set}
use Rattle.std.proofs.lemmas.List.{append-nil, drop_all, take_all, drop_more, take_more_set}
use Rattle.std.proofs.lemmas.Grind.{drop_more_same}
use Rattle.std.proofs.Common.{append_assoc}
use mir.Val.{bool_byte}
use Rattle.model.specs.Model.{Model}
use Rattle.following.specs.declared.call.RoundCall.{RoundCall}
use Rattle.following.specs.declared.call.Reply.{Reply}
use Rattle.following.specs.declared.call.Turn.{Turn}
use Rattle.following.specs.declared.lock.Lock.{Lock}
use Rattle.following.specs.declared.lock.Lock.TheVariants.{Done}
use Rattle.following.specs.Runs.{Does, Runs, Replied}
use Rattle.following.specs.Runs.Does.{treats, treats_not, reports, reports_not, settles, settles_not}
use Rattle.following.specs.Runs.Runs.{ends, goes, stops}
use Rattle.following.specs.Following.{calls_of, turns_of, LeadsOn}

abbrev pub one_if : Option Reply → ℕ
one_if (Some z) = 1
one_if None = 0

pub counted : (z : Option Reply) (b : Bool) (n : ℕ) → b ≡ is_some z → n ≡ bool_byte b → n ≡ one_if z
counted (Some z) b n e f = f ∙ ap bool_byte e
counted None b n e f = f ∙ ap bool_byte e

pub at_most_one : (z : Option Reply) → one_if z ≤ 1
at_most_one (Some z) = omega arith
at_most_one None = omega arith

-- a turn as it stands afterwards
abbrev pub with_reply : Turn → Option Reply → Turn
with_reply t z = record { call = t.call; reply = z }

module _ (m : Model) (rs : List ℕ) where
  -- when the round is over, no call is made
  no_call : {l l' : Lock} {d : RoundCall} {z : Reply} → Does m rs l d z l' → l ≡ Done → ⊥
  no_call (treats a b e) over = cc
  no_call (treats_not a f e) over = cc
  no_call (reports b j a e) over = cc
  no_call (reports_not b j f e) over = cc
  no_call (settles a z e) over = cc
  no_call (settles_not a f e) over = cc

  silent : {l : Lock} {ds : List RoundCall} {zs : List Reply} → Runs m rs l ds zs → l ≡ Done → zs ≡ []
  silent (ends l) over = refl
  silent (goes does run) over = absurd (no_call does over)
  silent (stops ds shut) over = refl

  -- one turn more, in front
  pub in_front : (l l' : Lock) (t : Turn) (z : Option Reply) (ts ts' : List Turn) (n : ℕ) → Replied m rs l t.call z l' → LeadsOn m rs l' n ts ts' → LeadsOn m rs l (one_if z + n) (t ∷ ts) (with_reply t z ∷ ts')
  in_front l l' t (Some z) ts ts' n does on = record {
    replies = z ∷ on.replies;
    count = let c = on.count in omega arith;
    turns = ap (λ (xs : List Turn). with_reply t (Some z) ∷ xs) on.turns;
    runs = goes does on.runs;
  }
  in_front l l' t None ts ts' n (shut, over) on =
      let none = silent on.runs over in
      record {
        replies = [];
        count = let c = on.count in let e = ap length none in omega arith;
        turns = ap (λ (xs : List Turn). with_reply t None ∷ xs) (on.turns ∙ ap (turns_of (calls_of ts)) none);
        runs = stops (calls_of ts) shut;
      }

  -- past the last turn
  pub all_led : (l0 l : Lock) (ts us : List Turn) (i k : ℕ) → length us ≤ i → length ts ≤ i →
      ((ws : List Turn) (n : ℕ) → LeadsOn m rs l n (drop i ts) ws → LeadsOn m rs l0 (k + n) ts (take i us ++ ws)) → LeadsOn m rs l0 k ts us
  all_led l0 l ts us i k over past on =
      let none : LeadsOn m rs l 0 [] [] = record { replies = []; count = refl; turns = refl; runs = ends l } in
      let whole = on [] 0 (subst (λ (xs : List Turn). LeadsOn m rs l 0 xs []) (sym (drop_all i ts past)) none) in
      let count : k + 0 ≡ k = omega arith in
      subst (λ (c : ℕ). LeadsOn m rs l0 c ts us) count (subst (LeadsOn m rs l0 (k + 0) ts) (append-nil (take i us) ∙ take_all i us over) whole)

  -- one turn more, at the place where the loop is
  pub turn_more : (l0 l l' : Lock) (ts us : List Turn) (i k b : ℕ) (z : Option Reply) (x : Turn) → i < length us → drop i us ≡ drop i ts → Replied m rs l (get_or us i x).call z l' → b ≡ one_if z →
      ((ws : List Turn) (n : ℕ) → LeadsOn m rs l n (drop i ts) ws → LeadsOn m rs l0 (k + n) ts (take i us ++ ws)) →
      (ws : List Turn) (n : ℕ) → LeadsOn m rs l' n (drop (i + 1) ts) ws → LeadsOn m rs l0 (k + b + n) ts (take (i + 1) (set us i (with_reply (get_or us i x) z)) ++ ws)
  turn_more l0 l l' ts us i k b z x within same replied counts on ws n rest =
      let t = get_or us i x in
      let next : drop i ts ≡ t ∷ drop (i + 1) ts = sym same ∙ drop_more us i x within ∙ ap (λ (xs : List Turn). t ∷ xs) (drop_more_same us ts i same) in
      let front = in_front l l' t z (drop (i + 1) ts) ws n replied rest in
      let whole = on (with_reply t z ∷ ws) (one_if z + n) (subst (λ (xs : List Turn). LeadsOn m rs l (one_if z + n) xs (with_reply t z ∷ ws)) (sym next) front) in
      let count : k + (one_if z + n) ≡ k + b + n = omega arith in
      let turns : take i us ++ (with_reply t z ∷ ws) ≡ take (i + 1) (set us i (with_reply t z)) ++ ws =
      sym (ap (λ (xs : List Turn). xs ++ ws) (take_more_set us i (with_reply t z) within) ∙ append_assoc (take i us) (with_reply t z ∷ []) ws) in
      subst (λ (c : ℕ). LeadsOn m rs l0 c ts (take (i + 1) (set us i (with_reply t z)) ++ ws)) count
      (subst (λ (xs : List Turn). LeadsOn m rs l0 (k + (one_if z + n)) ts xs) turns whole)
