use Rattle.cuts.proofs.Balance.{leaf_cuts_are_fairest_lem}
use Rattle.cuts.proofs.laws.leaf_cuts_are_fairest.Goals as goal

pub returns : goal.returns
returns c = leaf_cuts_are_fairest_lem
