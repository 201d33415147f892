use Rattle.quoting.specs.Quotes.{book_held}
use Rattle.quoting.proofs.Steps.{made}
use Rattle.quoting.proofs.quote.book_in.Goals as goal

pub unwrap-requires : goal.unwrap-requires
unwrap-requires c = made (book_held c.args.found c.args.records.now c.args.worths.now) c.new.result c.requires.lawful c.new.ensures
