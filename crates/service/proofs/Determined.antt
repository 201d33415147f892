-- Serving is determined: one answer to each call, one list of requests after.
use Rattle.std.proofs.Common.{◌≡◌, ℕ, List, [], ◌∷◌, refl, sym, ap, ◌∙◌, Some}
use Rattle.std.specs.Prelude.{Result}
use Rattle.std.specs.Vec.{with_items}
use Rattle.model.specs.Model.{Model, Lawful}
use Rattle.criteria.specs.Criteria.{Ops}
use Rattle.sheets.specs.declared.note.Note.{Note}
use Rattle.sheets.specs.Notes.{noted}
use Rattle.sheets.specs.Keeping.{noted_lawful}
use Rattle.planning.proofs.Determined.{plans_are_determined, judgements_are_determined}
use Rattle.following.proofs.Answered.{rounds_are_determined}
use Rattle.service.specs.declared.call.Call.{Call}
use Rattle.service.specs.declared.call.Call.TheVariants.{Bar, Surcharge, Prolong, Lift, Judge, Plan, Round}
use Rattle.service.specs.declared.call.Request.{Request}
use Rattle.service.specs.declared.call.CallRefusal.{CallRefusal}
use Rattle.service.specs.Calls.{standing}
use Rattle.service.specs.Serving.{of_plans, of_rounds, Answers, Answered, Served}
use Rattle.service.specs.Laws.{ServingIsDetermined}

module _ {C V A : Type 0} (ops : C → Ops V A) (m : Model) (lawful : Lawful m) where
  one_answer : (ns : List Note) (c y z : Call C V) (a b : Result ℕ CallRefusal) → Answers ops m ns c a y → Answers ops m ns c b z → (a ≡ b) × (y ≡ z)
  one_answer ns (Bar s r f l) y z a b p q = (p.0 ∙ sym q.0, p.1 ∙ sym q.1)
  one_answer ns (Surcharge r x f l) y z a b p q = (p.0 ∙ sym q.0, p.1 ∙ sym q.1)
  one_answer ns (Prolong k l) y z a b p q = (p.0 ∙ sym q.0, p.1 ∙ sym q.1)
  one_answer ns (Lift k) y z a b p q = (p.0 ∙ sym q.0, p.1 ∙ sym q.1)
  one_answer ns (Judge c H vs rs) y z a b p q =
      let same = judgements_are_determined (ops c) (noted m ns) H vs.items p.values.items q.values.items rs.items p.answer q.answer (noted_lawful m ns lawful) p.judged q.judged in
      let values = p.values_written ∙ ap (with_items vs) same.1 ∙ sym q.values_written in
      (p.answered ∙ ap of_plans same.0 ∙ sym q.answered, p.given_back ∙ ap (λ ws. Judge c H ws rs) values ∙ sym q.given_back)
  one_answer ns (Plan c H vs rs) y z a b p q =
      let same = plans_are_determined (ops c) (noted m ns) H vs.items p.values.items q.values.items rs.items p.remedies.items q.remedies.items p.answer q.answer (noted_lawful m ns lawful) p.planned q.planned in
      let values = p.values_written ∙ ap (with_items vs) same.1 ∙ sym q.values_written in
      let remedies = p.remedies_written ∙ ap (with_items rs) same.2 ∙ sym q.remedies_written in
      (p.answered ∙ ap of_plans same.0 ∙ sym q.answered, p.given_back ∙ (λ k. Plan c H (values k) (remedies k)) ∙ sym q.given_back)
  one_answer ns (Round H s vs rs ts) y z a b p q =
      let same = rounds_are_determined (noted m ns) H s vs.items p.values.items q.values.items rs.items p.remedies.items q.remedies.items ts.items p.turns.items q.turns.items p.answer q.answer (noted_lawful m ns lawful) p.led q.led in
      let values = p.values_written ∙ ap (with_items vs) same.1 ∙ sym q.values_written in
      let remedies = p.remedies_written ∙ ap (with_items rs) same.2 ∙ sym q.remedies_written in
      let turns = p.turns_written ∙ ap (with_items ts) same.3 ∙ sym q.turns_written in
      (p.answered ∙ ap of_rounds same.0 ∙ sym q.answered, p.given_back ∙ (λ k. Round H s (values k) (remedies k) (turns k)) ∙ sym q.given_back)

  one_request : (ns : List Note) (x y z : Request C V) → Answered ops m ns x y → Answered ops m ns x z → y ≡ z
  one_request ns x y z p q =
      let same = one_answer ns x.call y.call z.call p.answer q.answer p.performed q.performed in
      let answers = p.written ∙ ap Some same.0 ∙ sym q.written in
      (λ k. record { call = same.1 k; answer = answers k })

  served : (xs ys zs : List (Request C V)) (ns : List Note) → Served ops m ns xs ys → Served ops m ns xs zs → ys ≡ zs
  served [] [] [] ns p q = refl
  served [] [] (z ∷ zs) ns p q = absurd q
  served [] (y ∷ ys) zs ns p q = absurd p
  served (x ∷ xs) [] zs ns p q = absurd p
  served (x ∷ xs) (y ∷ ys) [] ns p q = absurd q
  served (x ∷ xs) (y ∷ ys) (z ∷ zs) ns p q =
      let here = one_request ns x y z p.0 q.0 in
      let rest = served xs ys zs (standing m ns x.call) p.1 q.1 in
      (λ k. here k ∷ rest k)

pub serving_is_determined_lem : {C V A : Type 0} (ops : C → Ops V A) → ServingIsDetermined ops
serving_is_determined_lem ops m lawful ns xs ys zs p q = served ops m lawful xs ys zs ns p q
