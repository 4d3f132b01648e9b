use Rattle.paged.proofs.Exactly.{walks_accept_sound_trees_lem}
use Rattle.paged.proofs.laws.walks_accept_sound_trees.Goals as goal

pub returns : goal.returns
returns c = walks_accept_sound_trees_lem
