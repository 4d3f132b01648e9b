use Rattle.page.proofs.ExactlyOne.{nothing_else_is_read_lem}
use Rattle.page.proofs.laws.nothing_else_is_read.Goals as goal

pub returns : goal.returns
returns c = nothing_else_is_read_lem
