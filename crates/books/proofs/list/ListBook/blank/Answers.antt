use Rattle.std.proofs.Common.{ℕ, arith}
use Rattle.std.proofs.lemmas.List.{get_or-replicate}
use Rattle.books.proofs.list.ListBook.blank.Goals as goal

pub invariant_of-result-3-clause-rows_start : goal.invariant_of-result-3-clause-rows_start
invariant_of-result-3-clause-rows_start c = λ k l. let none = get_or-replicate {A = ℕ} 257 k 0 0 l in record { within = omega arith; below = λ i m. absurd (omega arith); above = λ i m n. absurd (omega arith) }
