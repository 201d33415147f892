use Rattle.std.proofs.Common.{◌-◌}
use Rattle.script.proofs.Tabled.{SoFar}
use Rattle.script.proofs.reading.remedies_in.Given as goal

abbrev pub invariant-loop : goal.invariant-loop
invariant-loop l = SoFar l.count l.fn.fields.line l.fn.fields.place l.fn.fields.rest.now (l.count - l.counter) l.fields.line l.fields.place l.fields.rest.now l.remedies.items
