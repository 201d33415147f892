use Rattle.std.proofs.Common.{rules, ◌+◌}
use Rattle.bookfile.proofs.Advancing.{line_surplus}
use Rattle.bookfile.proofs.reader.Reader.ended.Goals as goal

pub returns-else-is_empty-clause-answer : goal.returns-else-is_empty-clause-answer
returns-else-is_empty-clause-answer c = λ room bs es ws come. line_surplus room bs c.args.self.now.progress es ws c.args.self.now.rest.now (c.line.result + 1) (search rules) (search rules) come
