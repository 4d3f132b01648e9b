use Rattle.meta.proofs.Judged.{zeros_not_read}
use Rattle.meta.proofs.laws.zeros_are_not_read.Goals as goal

pub returns : goal.returns
returns c = zeros_not_read
