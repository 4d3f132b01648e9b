use Rattle.cuts.proofs.Balance.{overfull_leaves_are_cut_lem}
use Rattle.cuts.proofs.laws.overfull_leaves_are_cut.Goals as goal

pub returns : goal.returns
returns c = overfull_leaves_are_cut_lem
