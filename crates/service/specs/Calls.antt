-- The notes of a sheet under a list of calls.
use Rattle.std.specs.Prelude.{List, fold}
use Rattle.model.specs.Model.{Model, offers}
use Rattle.sheets.specs.declared.note.Note.{Note}
use Rattle.sheets.specs.Calls.{to_bar, to_surcharge, to_prolong, to_lift}
use Rattle.service.specs.declared.call.Call.{Call}
use Rattle.service.specs.declared.call.Call.TheVariants.{Bar, Surcharge, Prolong, Lift, Judge, Plan, Round}
use Rattle.service.specs.declared.call.Request.{Request}

module _ {C V : Type 0} (m : Model) where
  -- the notes standing after a call, declined or not
  abbrev pub standing : List Note → Call C V → List Note
  standing ns (Bar s r f l) = (to_bar (offers m) ns s r (record { first = f; last = l })).1
  standing ns (Surcharge r x f l) = (to_surcharge (offers m) ns r x (record { first = f; last = l })).1
  standing ns (Prolong p l) = (to_prolong ns p l).1
  standing ns (Lift p) = (to_lift ns p).1
  standing ns (Judge c H vs rs) = ns
  standing ns (Plan c H vs rs) = ns
  standing ns (Round H s vs rs ts) = ns

  -- and after a list of them
  abbrev pub standing_after : List Note → List (Request C V) → List Note
  standing_after ns xs = fold (λ ys x. standing ys x.call) ns xs
