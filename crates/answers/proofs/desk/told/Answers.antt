use Rattle.std.proofs.Common.{map, string_bytes, ap, ◌∙◌}
use Rattle.std.proofs.lemmas.Result.{IfOk-weaker}
use Rattle.script.specs.Parts.{script_from}
use Rattle.script.specs.Scripts.{said_of}
use Rattle.answers.proofs.Telling.{told_fault, book_made, told_book}
use Rattle.answers.proofs.desk.told.Goals as goal

pub returns-in-Err : goal.returns-in-Err
returns-in-Err c = IfOk-weaker c.refused.result _ _ (λ s e. told_fault (script_from c.args.parts.first c.args.parts.script.now) c.in-Err.fault c.number.result c.places-places.result (string_bytes s) c.in-Err.ensures.answer.0 c.places-places.ensures c.number.ensures e) c.refused.ensures

pub unwrap-book-requires : goal.unwrap-book-requires
unwrap-book-requires c = book_made c.new.result c.in-Ok.ensures.answer c.new.ensures

pub returns : goal.returns
returns c = IfOk-weaker c.served.result _ _ (λ s e. told_book c.new.result c.in-Ok.ensures.answer c.new.ensures c.unwrap-book.result (map said_of c.as_slice.result.now) (script_from c.args.parts.first c.args.parts.script.now) (string_bytes s) c.unwrap-book.ensures (ap (map said_of) c.as_slice.ensures.value ∙ c.in_ok-lines.ensures) e) c.served.ensures
