use Rattle.std.proofs.Common.{map, sym, ap, ◌∙◌}
use Rattle.cuts.specs.Cuts.{total, middle}
use Rattle.cuts.specs.Nodes.{cell_cost}
use Rattle.page.specs.Goods.{branch_costs}
use Rattle.page.specs.Kinds.{branch_good, cell_of}
use Rattle.page.specs.Lists.{cells_in}
use Rattle.page.specs.Splices.{body_cost}
use Rattle.page.proofs.Branches.{cut_fits}
use Rattle.page.proofs.Items.{total_items, middle_items}
use Rattle.page.proofs.Splices.{list_good}
use Rattle.page.proofs.branch.edits.Splice+BranchCell.branch_cut.Goals as goal

pub returns : goal.returns
returns c =
    let s = c.args.self.now in
    let xs = cells_in s in
    let g = list_good s in
    record {
      value = c.middle_cut.ensures
          ∙ (ap (λ t. middle body_cost t 0 xs) (sym (total_items cell_of cell_cost branch_good branch_costs xs g)) ∙ sym (middle_items cell_of cell_cost branch_good branch_costs (total cell_cost (map cell_of xs)) 0 xs g));
      parts = cut_fits xs c.middle_cut.result g c.requires.overfull c.requires.few c.middle_cut.ensures;
    }
