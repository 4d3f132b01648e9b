use Rattle.tree.proofs.Making.{edits_make_few_nodes_lem}
use Rattle.tree.proofs.laws.edits_make_few_nodes.Goals as goal

pub returns : goal.returns
returns c = edits_make_few_nodes_lem
