use Rattle.tree.proofs.Searches.{after_finds_the_next_pair_lem}
use Rattle.tree.proofs.laws.after_finds_the_next_pair.Goals as goal

pub returns : goal.returns
returns c = after_finds_the_next_pair_lem
