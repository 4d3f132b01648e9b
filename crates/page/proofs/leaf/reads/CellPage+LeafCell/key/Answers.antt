use Rattle.std.proofs.Common.{◌∙◌}
use Rattle.page.specs.Layout.{cells_of}
use Rattle.page.proofs.Keys.{pair_key}
use Rattle.page.proofs.leaf.reads.CellPage+LeafCell.key.Goals as goal

pub returns : goal.returns
returns c = c.cell_key.ensures ∙ pair_key (cells_of c.args.self.now.bytes) c.args.i
