use Rattle.books.proofs.Once.{tables_answered_once, lists_answered_once}
use Rattle.books.proofs.laws.answered_once.Goals as goal

pub returns : goal.returns
returns c = record { tables = tables_answered_once; lists = lists_answered_once }
