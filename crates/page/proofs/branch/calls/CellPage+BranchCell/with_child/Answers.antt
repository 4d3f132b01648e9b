use Rattle.std.proofs.Common.{arith}
use Rattle.page.specs.Views.{branch_node}
use Rattle.page.proofs.BranchSteps.{later_is}
use Rattle.page.proofs.branch.calls.CellPage+BranchCell.with_child.Goals as goal

pub returns : goal.returns
returns c =
    let b = branch_node c.args.self.now in
    (omega arith, later_is c.args.i b.first c.args.page b.rest _ (omega arith) (omega arith) c.with_later.ensures)
