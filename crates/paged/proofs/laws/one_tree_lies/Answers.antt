use Rattle.paged.proofs.Lying.{one_tree_lies_lem}
use Rattle.paged.proofs.laws.one_tree_lies.Goals as goal

pub returns : goal.returns
returns c = one_tree_lies_lem
