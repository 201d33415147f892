-- What holds of each record of lists in turn.
use Rattle.std.proofs.Common.{ℕ, zero, suc, ◌<◌, List, arith}
use Rattle.std.specs.List.{All}
use Rattle.std.proofs.lemmas.List.Elements.{All-nil, All-append}
use Rattle.books.specs.declared.record.Record.{Record}
use Rattle.books.specs.Kinds.{in_turn}

pub all_turn : (P : Record → Type 0) (n : ℕ) (f : ℕ → List Record) → ((k : ℕ) → k < n → All P (f k)) → All P (in_turn n f)
all_turn P zero f h = All-nil P
all_turn P (suc n) f h = All-append P (in_turn n f) (f n) (all_turn P n f (λ k l. h k (omega arith))) (h n (omega arith))
