use Rattle.std.proofs.Common.{◌≡◌, ℕ, ◌<◌}
use Rattle.planning.specs.Tables.{at}
use Rattle.planning.proofs.rows.close_row.Given as goal

abbrev pub invariant-loop-condition : goal.invariant-loop-condition
invariant-loop-condition g l = let o = g.C.Criterion.ops l.by in (s : ℕ) → s < l.condition → at o l.values s ≡ o.closing ((g.B.Book.model l.book).worth s)
