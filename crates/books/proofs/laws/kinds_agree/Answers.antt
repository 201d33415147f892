use Rattle.books.proofs.Agreeing.{kinds_agree_lem}
use Rattle.books.proofs.Positives.{positives_make_a_list}
use Rattle.books.proofs.laws.kinds_agree.Goals as goal

pub returns : goal.returns
returns c = record { same = kinds_agree_lem; made = positives_make_a_list }
