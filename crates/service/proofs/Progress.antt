-- A list of calls of which the first are served.
use Rattle.std.proofs.Common.{◌≡◌, ℕ, ◌+◌, ◌<◌, List, [], ◌∷◌, ◌++◌, length, take, drop, get_or, set, refl, ap, ◌∙◌, arith, Some}
use Rattle.std.specs.Prelude.{Result}
use Rattle.std.proofs.lemmas.List.{take_more, drop_more, take_more_set, drop-set-lt}
use Rattle.std.proofs.lemmas.List.Sums.{fold-append}
use Rattle.model.specs.Model.{Model}
use Rattle.criteria.specs.Criteria.{Ops}
use Rattle.sheets.specs.declared.note.Note.{Note}
use Rattle.service.specs.declared.call.Request.{Request}
use Rattle.service.specs.Calls.{standing, standing_after}
use Rattle.service.specs.declared.call.Call.{Call}
use Rattle.service.specs.declared.call.CallRefusal.{CallRefusal}
use Rattle.service.specs.Serving.{Answers, Answered, Served}
use Rattle.service.proofs.Parts.{parts}

-- W are books
module _ {C V A W : Type 0} (ops : C → Ops V A) (model : W → Model) where
  -- of the requests xs, which are now ys, the first i are served on the book b₀ from the notes ns; the notes now stand, over the book b
  pub record Progress (b₀ : W) (ns : List Note) (xs ys : List (Request C V)) (b : W) (now : List Note) (i : ℕ) : Type 0 where
    pub served : Served ops (model b₀) ns (take i xs) (take i ys)
    pub notes : now ≡ standing_after (model b₀) ns (take i xs)
    pub rest : drop i ys ≡ drop i xs
    pub book : b ≡ b₀

  pub onward : (b₀ b b' : W) (ns : List Note) (xs ys : List (Request C V)) (now later : List Note) (i : ℕ) (d : Request C V) (a : Result ℕ CallRefusal) (back : Call C V) → Progress b₀ ns xs ys b now i → length ys ≡ length xs → i < length ys → Answers ops (model b) now (get_or ys i d).call a back → later ≡ standing (model b) now (get_or ys i d).call → b' ≡ b → Progress b₀ ns xs (set ys i (record { call = back; answer = Some a })) b' later (i + 1)
  onward b₀ b b' ns xs ys now later i d a back p long l h e eb =
      let x = get_or ys i d in
      let y : Request C V = record { call = back; answer = Some a } in
      let lx : i < length xs = omega arith in
      let ex = drop_more xs i d lx in
      let ey = drop_more ys i d l in
      let r = p.rest in
      let same : get_or xs i d ≡ x = cc in
      let tails : drop (i + 1) ys ≡ drop (i + 1) xs = cc in
      let t : take (i + 1) xs ≡ take i xs ++ x ∷ [] = take_more xs i d lx ∙ ap (λ z. take i xs ++ z ∷ []) same in
      let here : Answered ops (model b₀) now x y = record { answer = a; written = refl; performed = rw p.book at h } in
      record {
        served = rw (t, take_more_set ys i y l) (parts ops (model b₀) (take i xs) (take i ys) ns (x ∷ []) (y ∷ []) p.served (rw (← p.notes) here, tt));
        notes = rw (t, fold-append (λ ns x. standing (model b₀) ns x.call) ns (take i xs) (x ∷ []), ← p.notes) (rw p.book at e);
        rest = drop-set-lt (i + 1) ys i y (omega arith) ∙ tails;
        book = eb ∙ p.book;
      }
