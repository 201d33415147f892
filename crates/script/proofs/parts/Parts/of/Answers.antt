use Rattle.std.proofs.Common.{◌+◌, sym, ap, ◌∙◌}
use Rattle.script.specs.Parts.{newlines, script_from}
use Rattle.script.proofs.Parting.{past_line, last_of_book, none_of_script, begins}
use Rattle.script.proofs.parts.Parts.of.Goals as goal

pub returns-then-starts_with-clause-script : goal.returns-then-starts_with-clause-script
returns-then-starts_with-clause-script c = ap (script_from (c.loop-line.first + 1)) c.split_at.ensures.back ∙ (last_of_book c.loop-line.invariant c.in-Ok.ensures (begins c.in-Ok.line.text.now _ c.starts_with.ensures.value ∙ c.if-starts_with.true)).1

pub returns-then-starts_with-clause-book : goal.returns-then-starts_with-clause-book
returns-then-starts_with-clause-book c = c.split_at.ensures.front ∙ (last_of_book c.loop-line.invariant c.in-Ok.ensures (begins c.in-Ok.line.text.now _ c.starts_with.ensures.value ∙ c.if-starts_with.true)).0

pub loop-line-preserved : goal.loop-line-preserved
loop-line-preserved c = past_line c.loop-line.invariant c.in-Ok.ensures (begins c.in-Ok.line.text.now _ c.starts_with.ensures.value ∙ c.if-starts_with.false)

pub returns-clause-book : goal.returns-clause-book
returns-clause-book c = (none_of_script c.loop-line.invariant c.in_default.ensures.unended).0

pub returns-then-starts_with-clause-first : goal.returns-then-starts_with-clause-first
returns-then-starts_with-clause-first c = (last_of_book c.loop-line.invariant c.in-Ok.ensures (begins c.in-Ok.line.text.now _ c.starts_with.ensures.value ∙ c.if-starts_with.true)).2 ∙ ap (λ bs. 1 + newlines bs) (sym c.split_at.ensures.front)

pub returns-clause-first : goal.returns-clause-first
returns-clause-first c = (none_of_script c.loop-line.invariant c.in_default.ensures.unended).2
