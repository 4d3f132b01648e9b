use Rattle.std.proofs.Common.{◌+◌, ap, ◌∙◌, arith}
use Rattle.page.specs.Layout.{cells_of}
use Rattle.page.proofs.Pages.{edge_is, top_more, cell_between}
use Rattle.page.proofs.Tested.{every_at}
use Rattle.page.proofs.cells.Cells.get.Goals as goal

pub slice_bounds-result-count : goal.slice_bounds-result-count
slice_bounds-result-count g c =
    let s = c.args.self.now.laid in
    let i = c.args.i in
    omega (arith, edge_is i s (omega arith), edge_is (i + 1) s (omega arith), top_more (cells_of c.args.self.now.page.now) i c.requires)

pub slice_bounds-result-start : goal.slice_bounds-result-start
slice_bounds-result-start g c =
    let s = c.args.self.now.laid in
    let i = c.args.i in
    omega (arith, edge_is i s (omega arith), edge_is (i + 1) s (omega arith), top_more (cells_of c.args.self.now.page.now) i c.requires)

pub slice_bounds-result-end : goal.slice_bounds-result-end
slice_bounds-result-end g c = omega (arith, edge_is c.args.i c.args.self.now.laid (omega arith))

pub invariant_of-result : goal.invariant_of-result
invariant_of-result g c =
    let s = c.args.self.now in
    let good = g.C.Cell.rules.good in
    let e = cell_between c.args.i _ _ s.laid c.requires c.edge-end.ensures c.edge-from.ensures in
    record { good = ap good e ∙ every_at good (cells_of s.page.now) c.args.i s.goods c.requires }

pub returns : goal.returns
returns g c = cell_between c.args.i _ _ c.args.self.now.laid c.requires c.edge-end.ensures c.edge-from.ensures
