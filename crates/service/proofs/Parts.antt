-- The requests of a list that is served: in parts, and one by one.
use Rattle.std.proofs.Common.{◌≡◌, ℕ, zero, suc, List, [], ◌∷◌, ◌++◌, length, take, refl, ap, Some}
use Rattle.std.specs.Prelude.{slice_get}
use Rattle.model.specs.Model.{Model}
use Rattle.criteria.specs.Criteria.{Ops}
use Rattle.sheets.specs.declared.note.Note.{Note}
use Rattle.service.specs.declared.call.Request.{Request}
use Rattle.service.specs.Calls.{standing, standing_after}
use Rattle.service.specs.Serving.{Answered, Served}
use Rattle.service.specs.Laws.{EachIsServed, PartsAreTheWhole}

module _ {C V A : Type 0} (ops : C → Ops V A) (m : Model) where
  -- a list that is served in two parts
  pub parts : (xs ys : List (Request C V)) (ns : List Note) (xs' ys' : List (Request C V)) → Served ops m ns xs ys → Served ops m (standing_after m ns xs) xs' ys' → Served ops m ns (xs ++ xs') (ys ++ ys')
  parts [] [] ns xs' ys' p q = q
  parts [] (z ∷ ys) ns xs' ys' p q = absurd p
  parts (w ∷ xs) [] ns xs' ys' p q = absurd p
  parts (w ∷ xs) (z ∷ ys) ns xs' ys' p q = (p.0, parts xs ys (standing m ns w.call) xs' ys' p.1 q)

  length_served : (xs ys : List (Request C V)) (ns : List Note) → Served ops m ns xs ys → length ys ≡ length xs
  length_served [] [] ns p = refl
  length_served [] (z ∷ ys) ns p = absurd p
  length_served (w ∷ xs) [] ns p = absurd p
  length_served (w ∷ xs) (z ∷ ys) ns p = ap suc (length_served xs ys (standing m ns w.call) p.1)

  -- the request at a place
  one_of : (xs ys : List (Request C V)) (ns : List Note) → Served ops m ns xs ys → (i : ℕ) (x y : Request C V) → slice_get xs i ≡ Some x → slice_get ys i ≡ Some y → Answered ops m (standing_after m ns (take i xs)) x y
  one_of [] [] ns p i x y e f = cc
  one_of [] (z ∷ ys) ns p i x y e f = absurd p
  one_of (w ∷ xs) [] ns p i x y e f = absurd p
  one_of (w ∷ xs) (z ∷ ys) ns p zero x y e f =
      let ex : w ≡ x = cc in
      let ey : z ≡ y = cc in
      rw (← ex, ← ey) p.0
  one_of (w ∷ xs) (z ∷ ys) ns p (suc i) x y e f = one_of xs ys (standing m ns w.call) p.1 i x y e f

pub each_is_served : {C V A : Type 0} (ops : C → Ops V A) → EachIsServed ops
each_is_served ops m ns xs ys p = (length_served ops m xs ys ns p, one_of ops m xs ys ns p)

pub parts_are_the_whole : {C V A : Type 0} (ops : C → Ops V A) → PartsAreTheWhole ops
parts_are_the_whole ops m ns xs ys xs' ys' p q = parts ops m xs ys ns xs' ys' p q
