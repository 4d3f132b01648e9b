use Rattle.std.proofs.Common.{ap}
use Rattle.page.specs.Kinds.{leaf_key}
use Rattle.page.specs.Reading.{rising}
use Rattle.page.proofs.leaf.calls.CellPage+LeafCell.empty.Goals as goal

pub finish-requires-clause-rises : goal.finish-requires-clause-rises
unfolding rising
finish-requires-clause-rises c = ap (rising leaf_key) c.new.ensures.cells
