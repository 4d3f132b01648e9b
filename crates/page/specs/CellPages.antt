-- The two kinds of pages of cells.
use Rattle.checksum.specs.declared.kind.Kind.TheVariants.{Leaf, Branch}
use Rattle.cuts.specs.Nodes.{Pair, pair_cost, cell_cost}
use Rattle.page.specs.Kinds.{BranchItem, leaf_rules, branch_rules, pair_of, cell_of}
use Rattle.page.specs.declared.cell.LeafCell.{LeafCell}
use Rattle.page.specs.declared.cell.BranchCell.{BranchCell}
use Rattle.page.specs.declared.cell_page.CellPage.{CellPage}

abbrev pub LeafPage : Type 0
LeafPage = CellPage LeafCell (record { KIND = Leaf; rules = leaf_rules; Item = Pair; item = pair_of; item_cost = pair_cost })

abbrev pub BranchPage : Type 0
BranchPage = CellPage BranchCell (record { KIND = Branch; rules = branch_rules; Item = BranchItem; item = cell_of; item_cost = cell_cost })
