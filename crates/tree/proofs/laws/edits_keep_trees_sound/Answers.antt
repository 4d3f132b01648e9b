use Rattle.tree.proofs.Kept.{edits_keep_trees_sound_lem}
use Rattle.tree.proofs.laws.edits_keep_trees_sound.Goals as goal

pub returns : goal.returns
returns c = edits_keep_trees_sound_lem
