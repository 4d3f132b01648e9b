use Rattle.std.proofs.Common.{map, sym, ap, arith}
use Rattle.std.proofs.lemmas.List.{take_all}
use Rattle.cuts.specs.Cuts.{total}
use Rattle.cuts.specs.Nodes.{cell_cost}
use Rattle.page.specs.Kinds.{cell_of}
use Rattle.page.specs.Layout.{cells_of}
use Rattle.page.proofs.BranchSteps.{cells_cost, light_few}
use Rattle.page.proofs.Children.{branch_bytes_lem}
use Rattle.page.proofs.branch.calls.CellPage+BranchCell.join.Goals as goal

pub placed-requires : goal.placed-requires
placed-requires c =
    let a = c.args.self.now.bytes in
    let b = c.args.right.now.bytes in
    let sa = c.args.self.now.sound in
    let sb = c.args.right.now.sound in
    let p = branch_bytes_lem a sa in
    let q = branch_bytes_lem b sb in
    let ps = map cell_of (cells_of a) in
    let n = c.len.result in
    let t = ap (total cell_cost) (take_all n ps (omega arith)) in
    let f = light_few (total cell_cost ps) (total cell_cost (map cell_of (cells_of b))) (omega (arith, cells_cost a p, p.laid.room)) (omega (arith, cells_cost b q, q.laid.room)) (sym c.if-not-one_is_light.ensures) in
    record { keep = omega arith; skip = omega arith; few = omega (arith, t, f) }
