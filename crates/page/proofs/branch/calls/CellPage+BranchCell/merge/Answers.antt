use Rattle.std.proofs.Common.{◌+◌, ap, ◌∙◌, arith}
use Rattle.std.proofs.lemmas.List.{length-map}
use Rattle.tree.specs.Trees.{branch}
use Rattle.page.specs.Kinds.{cell_of}
use Rattle.page.specs.Layout.{cells_of, left_of}
use Rattle.page.proofs.BranchLists.{joined_cells}
use Rattle.page.proofs.BranchSteps.{base_length, merges, node_is}
use Rattle.page.proofs.branch.calls.CellPage+BranchCell.merge.Goals as goal

pub without-requires : goal.without-requires
without-requires c =
    let q = c.in_ok-base.base in
    omega (arith, base_length c.args.self.now q c.args.i c.args.page c.in_ok-base.ensures.1, length-map (cells_of q.bytes) cell_of)

pub returns : goal.returns
returns c =
    let i = c.args.i in
    let q = c.in_ok-base.base in
    let xs = cells_of q.bytes in
    let w = c.without in
    let n = node_is w.result (left_of q.bytes) _ w.ensures.left w.ensures.cells ∙ ap (branch (left_of q.bytes)) (joined_cells xs xs i (i + 1)) in
    (omega arith, merges c.args.self.now q i c.args.page _ c.in_ok-base.ensures.1 (omega arith) n)
