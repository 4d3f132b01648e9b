use Rattle.std.proofs.Common.{rules}
use Rattle.survey.proofs.Texts.{is_aligned}
use Rattle.survey.proofs.row.RowDisplay.fmt.Goals as goal

pub returns-clause-writes : goal.returns-clause-writes
returns-clause-writes g c = rw (is_aligned 4 c.args.self.now.page) (search rules)
