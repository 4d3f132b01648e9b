use Rattle.std.proofs.Common.{rules}
use Rattle.survey.proofs.Texts.{is_aligned}
use Rattle.survey.proofs.contents.FillDisplay.fmt.Goals as goal

pub returns-clause-writes : goal.returns-clause-writes
returns-clause-writes g c = rw (is_aligned 2 c.args.self.now.cells, is_aligned 3 c.args.self.now.cost) (search rules)
