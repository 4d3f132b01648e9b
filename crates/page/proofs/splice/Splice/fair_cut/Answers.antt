use Rattle.std.proofs.Common.{length, ap, ◌∙◌, arith}
use Rattle.std.proofs.lemmas.Bool.{lt-leb, le-leb}
use Rattle.cuts.specs.Cuts.{fair}
use Rattle.page.specs.Splices.{body_cost}
use Rattle.page.specs.Lists.{cells_in}
use Rattle.page.proofs.Cuts.{cost_total, total_step, fair_search, at_start, stops_here, goes_on, stops_past}
use Rattle.page.proofs.splice.Splice.fair_cut.Goals as goal

pub loop-i-init : goal.loop-i-init
loop-i-init g c =
    let xs = cells_in c.args.self.now in
    (at_start (fair body_cost) xs, c.cost-right.ensures.value ∙ cost_total xs)

pub overflow_sub-right : goal.overflow_sub-right
overflow_sub-right g c =
    omega (arith, total_step (cells_in c.args.self.now) c.loop-i.i (omega arith), ap length c.get.ensures, c.loop-i.invariant.1)

pub returns-then-left-right : goal.returns-then-left-right
returns-then-left-right g c =
    let xs = cells_in c.args.self.now in
    let t = total_step xs c.loop-i.i (omega arith) in
    stops_here fair_search xs c.loop-i.i c.loop-i.left c.loop-i.invariant.0 (omega arith)
    (le-leb _ _ (omega (arith, t, ap length c.get.ensures, c.loop-i.invariant.1)))

pub loop-i-preserved : goal.loop-i-preserved
loop-i-preserved g c =
    let xs = cells_in c.args.self.now in
    let t = total_step xs c.loop-i.i (omega arith) in
    let b = ap length c.get.ensures in (
      goes_on fair_search xs c.loop-i.i c.loop-i.left c.loop-i.invariant.0 _ _ (omega arith) c.get.ensures (omega arith) (lt-leb _ _ (omega (arith, t, b, c.loop-i.invariant.1))),
      omega (arith, t, b, c.loop-i.invariant.1),
    )

pub returns : goal.returns
returns g c =
    omega (arith, stops_past fair_search (cells_in c.args.self.now) c.loop-i.i c.loop-i.left c.loop-i.invariant.0 (omega arith))
