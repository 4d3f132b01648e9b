use Rattle.std.proofs.Common.{length, ap, arith}
use Rattle.std.proofs.lemmas.Bool.{lt-ltb, le-ltb}
use Rattle.cuts.specs.Cuts.{total, middle}
use Rattle.page.specs.Splices.{body_cost}
use Rattle.page.specs.Lists.{cells_in}
use Rattle.page.proofs.Cuts.{cost_total, total_step, middle_search, at_start, stops_here, goes_on, stops_past}
use Rattle.page.proofs.splice.Splice.middle_cut.Goals as goal

pub loop-i-init : goal.loop-i-init
loop-i-init g c =
    let xs = cells_in c.args.self.now in at_start (middle body_cost (total body_cost xs)) xs

pub overflow_add-left-in-loop-i : goal.overflow_add-left-in-loop-i
overflow_add-left-in-loop-i g c =
    let xs = cells_in c.args.self.now in
    omega (arith, total_step xs c.loop-i.i (omega arith), ap length c.get.ensures, c.loop-i.invariant.costs, cost_total xs, c.cost-all.ensures.value, c.cost-all.ensures.bound)

pub overflow_mul-left : goal.overflow_mul-left
overflow_mul-left g c =
    let xs = cells_in c.args.self.now in
    omega (arith, total_step xs c.loop-i.i (omega arith), ap length c.get.ensures, c.loop-i.invariant.costs, cost_total xs, c.cost-all.ensures.value, c.cost-all.ensures.bound)

pub returns-then-left-all : goal.returns-then-left-all
returns-then-left-all g c =
    let xs = cells_in c.args.self.now in
    stops_here (middle_search (total body_cost xs)) xs c.loop-i.i c.loop-i.left c.loop-i.invariant (omega arith)
    (lt-ltb _ _ (omega (arith, ap length c.get.ensures, cost_total xs, c.cost-all.ensures.value)))

pub loop-i-preserved : goal.loop-i-preserved
loop-i-preserved g c =
    let xs = cells_in c.args.self.now in
    goes_on (middle_search (total body_cost xs)) xs c.loop-i.i c.loop-i.left c.loop-i.invariant _ _ (omega arith) c.get.ensures (omega arith)
    (le-ltb _ _ (omega (arith, ap length c.get.ensures, cost_total xs, c.cost-all.ensures.value)))

pub returns : goal.returns
returns g c =
    let xs = cells_in c.args.self.now in
    omega (arith, stops_past (middle_search (total body_cost xs)) xs c.loop-i.i c.loop-i.left c.loop-i.invariant (omega arith))
