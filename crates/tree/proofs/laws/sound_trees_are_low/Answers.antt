use Rattle.tree.proofs.Width.{sound_trees_are_low_lem}
use Rattle.tree.proofs.laws.sound_trees_are_low.Goals as goal

pub returns : goal.returns
returns c = sound_trees_are_low_lem
