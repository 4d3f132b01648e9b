use Rattle.cuts.specs.Cuts.{total, middle}
use Rattle.page.specs.Splices.{body_cost}
use Rattle.page.specs.Lists.{cells_in}
use Rattle.page.proofs.Cuts.{Reached}
use Rattle.page.proofs.splice.Splice.middle_cut.Given as goal

abbrev pub invariant-loop-i : goal.invariant-loop-i
invariant-loop-i g l = Reached (middle body_cost (total body_cost (cells_in l.self))) (cells_in l.self) l.i l.left
