use Rattle.cuts.proofs.Balance.{branch_cuts_fit_lem}
use Rattle.cuts.proofs.laws.branch_cuts_fit.Goals as goal

pub returns : goal.returns
returns c = branch_cuts_fit_lem
