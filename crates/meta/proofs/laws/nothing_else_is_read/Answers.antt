use Rattle.meta.proofs.Judged.{nothing_else_is_read_lem}
use Rattle.meta.proofs.laws.nothing_else_is_read.Goals as goal

pub returns : goal.returns
returns c = nothing_else_is_read_lem
