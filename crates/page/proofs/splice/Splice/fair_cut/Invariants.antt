use Rattle.std.proofs.Common.{◌≡◌, drop}
use Rattle.cuts.specs.Cuts.{total, fair}
use Rattle.page.specs.Splices.{body_cost}
use Rattle.page.specs.Lists.{cells_in}
use Rattle.page.proofs.Cuts.{Reached}
use Rattle.page.proofs.splice.Splice.fair_cut.Given as goal

abbrev pub invariant-loop-i : goal.invariant-loop-i
invariant-loop-i g l =
    Reached (fair body_cost) (cells_in l.self) l.i l.left × (l.right ≡ total body_cost (drop l.i (cells_in l.self)))
