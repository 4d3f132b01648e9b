use Rattle.std.proofs.Common.{arith}
use Rattle.page.proofs.BranchSteps.{base_ends, inserts}
use Rattle.page.proofs.branch.calls.CellPage+BranchCell.insert.Goals as goal

pub placed-requires : goal.placed-requires
placed-requires c =
    let e = c.in_ok-base.ensures in
    base_ends c.args.self.now c.in_ok-base.base c.args.i c.args.i c.args.left e.1 (omega arith) e.0

pub returns : goal.returns
returns c =
    let e = c.in_ok-base.ensures in
    inserts c.args.self.now c.in_ok-base.base c.args.i c.args.left c.args.separator.now c.args.right e.1 c.placed.result e.0 c.placed.ensures
