use Rattle.tree.proofs.Insertion.{rising_pairs_are_a_map_lem}
use Rattle.tree.proofs.laws.rising_pairs_are_a_map.Goals as goal

pub returns : goal.returns
returns c = rising_pairs_are_a_map_lem
