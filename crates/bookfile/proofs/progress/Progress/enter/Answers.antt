use Rattle.bookfile.proofs.Unfolding.{record_entry}
use Rattle.bookfile.proofs.progress.Progress.enter.Goals as goal

pub returns-in-Outcome : goal.returns-in-Outcome
returns-in-Outcome c = record_entry c.args.self.now c.add_record.new.self c.args.entry.now c.in-Outcome.outcome c.add_record.result c.in-Outcome.is c.requires c.add_record.ensures
