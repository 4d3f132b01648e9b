use Rattle.cuts.proofs.Balance.{branch_cuts_are_just_past_half_lem}
use Rattle.cuts.proofs.laws.branch_cuts_are_just_past_half.Goals as goal

pub returns : goal.returns
returns c = branch_cuts_are_just_past_half_lem
