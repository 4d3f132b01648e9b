use Rattle.std.proofs.Common.{◌∷◌, ◌++◌, map, take, drop, ap, ◌∙◌, arith}
use Rattle.std.proofs.lemmas.List.{length-map}
use Rattle.tree.specs.Trees.{branch}
use Rattle.page.specs.Branches.{ascending}
use Rattle.page.specs.Growths.{fitted_branch}
use Rattle.page.specs.Kinds.{branch_rules, cell_of}
use Rattle.page.specs.Layout.{cost, cells_of, left_of}
use Rattle.page.proofs.BranchLists.{with_cells, with_cost, cost_take_cells, cost_drop_cells}
use Rattle.page.proofs.BranchOrders.{rising_ascending}
use Rattle.page.proofs.Branches.{body_small}
use Rattle.page.proofs.Children.{page_parts}
use Rattle.page.proofs.branch.edits.CellPage+BranchCell.with_new.Goals as goal

pub splice-requires : goal.splice-requires
splice-requires c =
    let xs = cells_of c.args.self.now.bytes in
    let ys = cells_of c.args.back.now.bytes in
    let k = c.args.keep in
    let m = c.args.skip in
    let d = c.args.cell.bytes.now in
    record {
      keep = omega (arith, length-map xs cell_of, c.requires.ends.keep);
      skip = omega (arith, length-map ys cell_of, c.requires.ends.skip);
      rises = rising_ascending (take k xs ++ d ∷ drop m ys) ∙ (ap ascending (with_cells xs ys k m d) ∙ c.requires.rises);
    }

pub branches-requires : goal.branches-requires
branches-requires c =
    let xs = cells_of c.args.self.now.bytes in
    let ys = cells_of c.args.back.now.bytes in
    let d = c.args.cell.bytes.now in
    let p = (page_parts branch_rules c.args.self.now.bytes c.args.self.now.sound).1 in
    let q = (page_parts branch_rules c.args.back.now.bytes c.args.back.now.sound).1 in
    omega (
      arith,
      ap cost c.splice.ensures,
      with_cost xs ys c.args.keep c.args.skip d,
      cost_take_cells xs c.args.keep p,
      cost_drop_cells ys c.args.skip q,
      c.requires.ends.few,
      body_small d c.args.cell.good,
    )

pub returns : goal.returns
returns c =
    let b = c.args.self.now.bytes in
    let e = c.args.back.now.bytes in
    let k = c.args.keep in
    let m = c.args.skip in
    let d = c.args.cell.bytes.now in
    c.branches.ensures
    ∙ ap fitted_branch (ap (branch c.leftmost-leftmost.result) (ap (map cell_of) c.splice.ensures ∙ with_cells (cells_of b) (cells_of e) k m d)
    ∙ ap (λ l. branch l (take k (map cell_of (cells_of b)) ++ cell_of d ∷ drop m (map cell_of (cells_of e)))) (c.leftmost-leftmost.ensures ∙ ap left_of c.cells.ensures.same))
