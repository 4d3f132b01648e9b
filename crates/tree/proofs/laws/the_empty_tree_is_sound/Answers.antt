use Rattle.tree.proofs.Kept.{the_empty_tree_is_sound_lem}
use Rattle.tree.proofs.laws.the_empty_tree_is_sound.Goals as goal

pub returns : goal.returns
returns c = the_empty_tree_is_sound_lem
