use Rattle.tree.proofs.Edited.{edits_go_by_place_lem}
use Rattle.tree.proofs.laws.edits_go_by_place.Goals as goal

pub returns : goal.returns
returns c = edits_go_by_place_lem
