use Rattle.std.proofs.Common.{◌≡◌, ◌+◌, ◌<◌, [], length, get_or, refl, ap, ◌∙◌, arith}
use Rattle.std.proofs.lemmas.List.{length-map}
use Rattle.tree.specs.Trees.{branch}
use Rattle.page.specs.Kinds.{branch_key, branch_rules, cell_of}
use Rattle.page.specs.Layout.{cost, cells_of, left_of}
use Rattle.page.proofs.BranchLists.{set_cost, set_rises, with_cells}
use Rattle.page.proofs.BranchSteps.{node_is}
use Rattle.page.proofs.Children.{page_parts, separator_at_lem}
use Rattle.page.proofs.branch.edits.CellPage+BranchCell.set_cell.Goals as goal
use Rattle.page.proofs.branch.edits.CellPage+BranchCell.set_cell.Goals.{Start}

within : (c : Start) → c.args.i < length (cells_of c.args.self.now.bytes)
within c = omega (arith, length-map (cells_of c.args.self.now.bytes) cell_of, c.requires.within)

-- the new cell has the key of the one that it replaces
same_key : (c : Start) → branch_key c.args.cell.bytes.now ≡ branch_key (get_or (cells_of c.args.self.now.bytes) c.args.i [])
same_key c = c.requires.same ∙ separator_at_lem c.args.i (cells_of c.args.self.now.bytes) (within c)

pub splice-requires : goal.splice-requires
splice-requires c =
    let t = (goal.at.splice-requires c).Start in
    let p = page_parts branch_rules c.args.self.now.bytes c.args.self.now.sound in
    let g = c.args.cell.good in
    record {
      keep = omega (arith, within t);
      skip = omega (arith, within t);
      rises = set_rises (cells_of c.args.self.now.bytes) c.args.i c.args.cell.bytes.now (within t) p.1 g (same_key t) p.2;
    }

pub whole-requires : goal.whole-requires
whole-requires c =
    let t = (goal.at.whole-requires c).Start in
    let p = page_parts branch_rules c.args.self.now.bytes c.args.self.now.sound in
    record {
      room = omega (arith, ap cost c.splice.ensures, set_cost (cells_of c.args.self.now.bytes) c.args.i c.args.cell.bytes.now (within t) p.1 c.args.cell.good (same_key t), p.0.room);
      leftmost = refl;
    }

pub returns : goal.returns
returns c =
    let b = c.args.self.now.bytes in
    node_is c.whole.result (left_of b) _ (c.whole.ensures.left ∙ (c.leftmost-leftmost.ensures ∙ ap left_of c.cells.ensures.same)) (c.whole.ensures.cells ∙ c.splice.ensures)
    ∙ ap (branch (left_of b)) (with_cells (cells_of b) (cells_of b) c.args.i (c.args.i + 1) c.args.cell.bytes.now)
