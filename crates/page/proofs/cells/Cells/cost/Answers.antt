use Rattle.std.proofs.Common.{arith}
use Rattle.page.specs.Layout.{cells_of}
use Rattle.page.proofs.Pages.{edge_is}
use Rattle.page.proofs.Costs.{cost_edges, cost_part}
use Rattle.page.proofs.cells.Cells.cost.Goals as goal

pub overflow_add-result : goal.overflow_add-result
overflow_add-result g c = omega (arith, edge_is c.args.i c.args.self.now.laid (omega arith))

pub overflow_sub-result-2 : goal.overflow_sub-result-2
overflow_sub-result-2 g c =
    omega (arith, edge_is c.args.i c.args.self.now.laid (omega arith), edge_is c.args.j c.args.self.now.laid (omega arith), cost_edges (cells_of c.args.self.now.page.now) c.args.i c.args.j c.requires.ordered c.requires.within c.args.self.now.laid.room)

pub returns : goal.returns
returns g c =
    let xs = cells_of c.args.self.now.page.now in
    let i = c.args.i in
    let j = c.args.j in
    let e = cost_edges xs i j c.requires.ordered c.requires.within c.args.self.now.laid.room in
    record {
      value = omega (arith, edge_is i c.args.self.now.laid (omega arith), edge_is j c.args.self.now.laid (omega arith), e);
      bound = omega (arith, edge_is i c.args.self.now.laid (omega arith), edge_is j c.args.self.now.laid (omega arith), e, cost_part xs i j, c.args.self.now.laid.room);
    }
