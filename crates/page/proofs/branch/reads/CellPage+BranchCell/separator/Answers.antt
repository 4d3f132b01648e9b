use Rattle.std.proofs.Common.{◌∙◌}
use Rattle.page.specs.Layout.{cells_of, left_of}
use Rattle.page.proofs.Keys.{cell_separator}
use Rattle.page.proofs.branch.reads.CellPage+BranchCell.separator.Goals as goal

pub returns : goal.returns
returns c = let b = c.args.self.now.bytes in c.cell_key.ensures ∙ cell_separator (left_of b) (cells_of b) c.args.i
