use Rattle.tree.proofs.Counting.{edits_add_few_nodes_lem}
use Rattle.tree.proofs.laws.edits_add_few_nodes.Goals as goal

pub returns : goal.returns
returns c = edits_add_few_nodes_lem
