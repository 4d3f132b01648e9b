use Rattle.tree.proofs.Width.{branches_are_wide_lem}
use Rattle.tree.proofs.laws.branches_are_wide.Goals as goal

pub returns : goal.returns
returns c = branches_are_wide_lem
