use Rattle.quoting.proofs.Exactness.{asking_is_exact_lem}
use Rattle.quoting.proofs.Once.{one_quote}
use Rattle.quoting.proofs.Answered.{answers_are_one}
use Rattle.quoting.proofs.laws.quotes_are_one.Goals as goal

pub returns : goal.returns
returns c = record { exact = asking_is_exact_lem; one_output = one_quote; one_answer = answers_are_one }
