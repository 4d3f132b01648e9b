use Rattle.tree.proofs.Searches.{search_finds_the_pair_lem}
use Rattle.tree.proofs.laws.search_finds_the_pair.Goals as goal

pub returns : goal.returns
returns c = search_finds_the_pair_lem
