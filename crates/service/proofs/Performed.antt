-- What a judgement or a plan that is performed shows of its call.
use Rattle.std.proofs.Common.{◌≡◌, ℕ, List, length, refl, sym, ap, ◌∙◌, Ok, Err}
use Rattle.std.proofs.lemmas.List.{with_items_is}
use Rattle.std.specs.Prelude.{Result, ℤ}
use Rattle.std.specs.Result.{MatchResult, IsErrAnd, result_map_both}
use Rattle.std.specs.Vec.{with_items}
use Rattle.std.specs.declared.vec.Vec.{Vec}
use Rattle.std.specs.declared.alloc.Global.{Global}
use Rattle.model.specs.Model.{Model}
use Rattle.criteria.specs.Criteria.{Ops}
use Rattle.sheets.specs.declared.note.Note.{Note}
use Rattle.sheets.specs.Notes.{noted}
use Rattle.checks.specs.declared.refusal.PlanRefusal.{PlanRefusal}
use Rattle.planning.specs.Plans.{PlanAnswers, StuckExactly}
use Rattle.planning.specs.Judgements.{JudgeAnswers}
use Rattle.following.specs.declared.call.Turn.{Turn}
use Rattle.following.specs.declared.follow.Unfollowed.{Unfollowed}
use Rattle.following.specs.Following.{RoundAnswers}
use Rattle.service.specs.declared.call.Call.{Call}
use Rattle.service.specs.declared.call.Call.TheVariants.{Judge, Plan, Round}
use Rattle.service.specs.declared.call.CallRefusal.{CallRefusal}
use Rattle.service.specs.Serving.{of_plans, of_rounds, Rewritten, Answers}

-- an answer whose refusal is taken up
pub taken_up : {E : Type 0} (kind : E → CallRefusal) (x : Result ℕ E) (a : Result ℕ CallRefusal) → MatchResult x (λ n. a ≡ Ok n) (λ e. IsErrAnd a (λ y. y ≡ kind e)) → a ≡ result_map_both (λ n. n) kind x
taken_up kind (Ok n) a h = h
taken_up kind (Err e) (Ok n) h = absurd h
taken_up kind (Err e) (Err y) h = ap Err h

-- the entries of a table that was lent and given back
entries : {X : Type 0} (v : Vec X Global) (before after : List X) → before ≡ v.items → length after ≡ length before → (with_items v after).items ≡ after
entries v before after e l = with_items_is v after (l ∙ (ap length e ∙ sym v.ok.0))

rewritten : {X : Type 0} (v : Vec X Global) (after : List X) → (with_items v after).items ≡ after → Rewritten v (with_items v after)
rewritten v after e = ap (with_items v) (sym e)

module _ {C V A : Type 0} (ops : C → Ops V A) (m : Model) (ns : List Note) where
  pub judged : (call : Call C V) (c : C) (H : ℕ) (vs : Vec V Global) (rs : Vec ℕ Global) (before after : List V) (given : List ℕ) (x : Result ℕ PlanRefusal) (a : Result ℕ CallRefusal) → call ≡ Judge c H vs rs → before ≡ vs.items → given ≡ rs.items → length after ≡ length before → JudgeAnswers (ops c) (noted m ns) H x before after given → a ≡ of_plans x → Answers ops m ns call a (Judge c H (with_items vs after) rs)
  judged call c H vs rs before after given x a is eb eg long h ea =
      let e = entries vs before after eb long in
      let h' : JudgeAnswers (ops c) (noted m ns) H x vs.items (with_items vs after).items rs.items = rw (e, ← eb, ← eg) h in
      rw is (record { answer = x; values = with_items vs after; answered = ea; given_back = refl; values_written = rewritten vs after e; judged = h' })

  pub planned : (call : Call C V) (c : C) (H : ℕ) (vs : Vec V Global) (rs : Vec ℕ Global) (before after : List V) (old new : List ℕ) (x : Result ℕ PlanRefusal) (a : Result ℕ CallRefusal) → call ≡ Plan c H vs rs → before ≡ vs.items → old ≡ rs.items → length after ≡ length before → length new ≡ length old → PlanAnswers (ops c) (noted m ns) H x before after old new → StuckExactly (noted m ns) H (length before) (length old) x → a ≡ of_plans x → Answers ops m ns call a (Plan c H (with_items vs after) (with_items rs new))
  planned call c H vs rs before after old new x a is eb eo long same h stuck ea =
      let e = entries vs before after eb long in
      let e' = entries rs old new eo same in
      let h' : PlanAnswers (ops c) (noted m ns) H x vs.items (with_items vs after).items rs.items (with_items rs new).items = rw (e, e', ← eb, ← eo) h in
      rw is (record { answer = x; values = with_items vs after; remedies = with_items rs new; answered = ea; given_back = refl; values_written = rewritten vs after e; remedies_written = rewritten rs new e'; planned = h'; stuck = rw (← eb, ← eo) stuck })

  pub led : (call : Call C V) (H s : ℕ) (vs : Vec ℤ Global) (rs : Vec ℕ Global) (ts : Vec Turn Global) (before after : List ℤ) (old new : List ℕ) (turns made : List Turn) (x : Result ℕ Unfollowed) (a : Result ℕ CallRefusal) → call ≡ Round H s vs rs ts → before ≡ vs.items → old ≡ rs.items → turns ≡ ts.items → length after ≡ length before → length new ≡ length old → length made ≡ length turns → RoundAnswers (noted m ns) H s x before after old new turns made → a ≡ of_rounds x → Answers ops m ns call a (Round H s (with_items vs after) (with_items rs new) (with_items ts made))
  led call H s vs rs ts before after old new turns made x a is eb eo et long same all h ea =
      let e = entries vs before after eb long in
      let e' = entries rs old new eo same in
      let e'' = entries ts turns made et all in
      let h' : RoundAnswers (noted m ns) H s x vs.items (with_items vs after).items rs.items (with_items rs new).items ts.items (with_items ts made).items = rw (e, e', e'', ← eb, ← eo, ← et) h in
      rw is (record { answer = x; values = with_items vs after; remedies = with_items rs new; turns = with_items ts made; answered = ea; given_back = refl; values_written = rewritten vs after e; remedies_written = rewritten rs new e'; turns_written = rewritten ts made e''; led = h' })
