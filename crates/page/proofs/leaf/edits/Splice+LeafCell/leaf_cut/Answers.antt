use Rattle.std.proofs.Common.{sym, ◌∙◌}
use Rattle.cuts.specs.Nodes.{pair_cost}
use Rattle.page.specs.Goods.{leaf_costs}
use Rattle.page.specs.Kinds.{leaf_good, pair_of}
use Rattle.page.specs.Lists.{cells_in}
use Rattle.page.proofs.Items.{fair_items}
use Rattle.page.proofs.Leaves.{cut_fits}
use Rattle.page.proofs.Splices.{list_good}
use Rattle.page.proofs.leaf.edits.Splice+LeafCell.leaf_cut.Goals as goal

pub returns : goal.returns
returns c =
    let s = c.args.self.now in
    let g = list_good s in
    record {
      value = c.fair_cut.ensures ∙ sym (fair_items pair_of pair_cost leaf_good leaf_costs 0 (cells_in s) g);
      parts = cut_fits (cells_in s) c.fair_cut.result g c.requires.overfull c.requires.few c.fair_cut.ensures;
    }
