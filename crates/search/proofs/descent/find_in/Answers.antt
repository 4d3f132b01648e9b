use Rattle.search.proofs.InLeaves.{in_leaf_found, in_leaf_missing}
use Rattle.search.proofs.descent.find_in.Goals as goal

pub returns-in_err-cell : goal.returns-in_err-cell
returns-in_err-cell c =
    rw c.from_residual.ensures (in_leaf_missing c.args.leaf c.args.key.now c.in_err-cell.ensures)

pub returns : goal.returns
returns c = in_leaf_found c.args.leaf c.args.key.now c.in_ok-cell.cell c.in_ok-cell.ensures
