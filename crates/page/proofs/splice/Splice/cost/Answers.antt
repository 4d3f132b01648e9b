use Rattle.std.proofs.Common.{ap, arith}
use Rattle.page.specs.Layout.{cost}
use Rattle.page.proofs.Pages.{cost_none, cost_one}
use Rattle.page.proofs.Splices.{one_loose, no_loose, cost_spliced}
use Rattle.page.proofs.splice.Splice.cost.Goals as goal

pub returns-in-Some-clause-value : goal.returns-in-Some-clause-value
returns-in-Some-clause-value g c =
    let s = c.args.self.now in
    omega (arith, cost_spliced g.C.Cell.rules _ _ _ _ _ s.spliced c.len.result c.len.ensures, ap cost (one_loose s.middle _ c.in-Some.is), cost_one c.in-Some.cell.bytes.now, c.cost.ensures.value, c.cost-2.ensures.value)

pub returns-in-None-clause-value : goal.returns-in-None-clause-value
returns-in-None-clause-value g c =
    let s = c.args.self.now in
    omega (arith, cost_spliced g.C.Cell.rules _ _ _ _ _ s.spliced c.len.result c.len.ensures, ap cost (no_loose s.middle c.in-None.is), cost_none, c.cost.ensures.value, c.cost-2.ensures.value)
