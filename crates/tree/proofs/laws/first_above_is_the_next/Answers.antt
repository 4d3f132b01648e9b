use Rattle.tree.proofs.Searches.{first_above_is_the_next_lem}
use Rattle.tree.proofs.laws.first_above_is_the_next.Goals as goal

pub returns : goal.returns
returns c = first_above_is_the_next_lem
