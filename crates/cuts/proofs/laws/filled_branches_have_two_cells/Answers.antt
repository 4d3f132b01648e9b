use Rattle.cuts.proofs.Balance.{filled_branches_have_two_cells_lem}
use Rattle.cuts.proofs.laws.filled_branches_have_two_cells.Goals as goal

pub returns : goal.returns
returns c = filled_branches_have_two_cells_lem
