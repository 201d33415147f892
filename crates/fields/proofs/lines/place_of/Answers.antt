use Rattle.std.proofs.Common.{rules, tests}
use Rattle.std.proofs.lemmas.Iterator.{YieldsList-from_slice}
use Rattle.std.proofs.lemmas.Iterator.Search.{position_from_yields_List}
use Rattle.fields.proofs.CodeLines.{first_place}
use Rattle.fields.proofs.lines.place_of.Goals as goal

pub returns : goal.returns
returns c = first_place c.args.byte c.args.bytes.now _ (position_from_yields_List _ _ _ _ c.position.ensures.ran (YieldsList-from_slice c.args.bytes.now cc) (λ x b q k. search (rules, tests)))
