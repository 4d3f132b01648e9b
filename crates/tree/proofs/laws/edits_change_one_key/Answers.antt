use Rattle.tree.proofs.Edited.{edits_change_one_key_lem}
use Rattle.tree.proofs.laws.edits_change_one_key.Goals as goal

pub returns : goal.returns
returns c = edits_change_one_key_lem
