use Rattle.tree.proofs.Flat.{trees_are_maps_lem}
use Rattle.tree.proofs.laws.trees_are_maps.Goals as goal

pub returns : goal.returns
returns c = trees_are_maps_lem
