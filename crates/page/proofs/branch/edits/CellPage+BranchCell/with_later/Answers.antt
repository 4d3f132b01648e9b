use Rattle.std.proofs.Common.{◌≡◌, ◌+◌, ◌^◌, ◌<◌, ◌∷◌, ◌++◌, [], map, get_or, take, drop, sym, ap, ◌∙◌, arith}
use Rattle.std.proofs.lemmas.List.{length-map}
use Rattle.tree.specs.Places.{separator_at}
use Rattle.tree.specs.Trees.{branch, cell}
use Rattle.page.specs.Kinds.{branch_body, branch_key, cell_of}
use Rattle.page.specs.Layout.{cells_of, left_of}
use Rattle.page.proofs.BranchLists.{cell_body}
use Rattle.page.proofs.Children.{separator_at_lem}
use Rattle.page.proofs.branch.edits.CellPage+BranchCell.with_later.Goals as goal
use Rattle.page.proofs.branch.edits.CellPage+BranchCell.with_later.Goals.{After-key}

-- the key of the cell is its separator
is_separator : (c : After-key) → c.key.result.now ≡ separator_at c.args.i (map cell_of (cells_of c.args.self.now.bytes))
is_separator c =
    let xs = cells_of c.args.self.now.bytes in
    let e = c.cells.ensures.same in
    c.key.ensures ∙ (ap (λ z. branch_key (get_or (cells_of z) c.args.i [])) e ∙ sym (separator_at_lem c.args.i xs (omega (arith, length-map xs cell_of, c.requires))))

pub set_cell-requires : goal.set_cell-requires
set_cell-requires c =
    let t = (goal.at.set_cell-requires c).After-key in
    let k = c.key.result.now in
    let e : c.as_slice.result.now ≡ branch_body (cell k c.args.child) = c.as_slice.ensures ∙ c.branch_cell-cell.ensures in
    record { within = c.requires; same = ap branch_key e ∙ is_separator t }

pub returns : goal.returns
returns c =
    let cs = map cell_of (cells_of c.args.self.now.bytes) in
    let k = c.key.result.now in
    let x = c.args.child in
    let f : x < 2 ^ 32 = omega arith in
    let e : c.as_slice.result.now ≡ branch_body (cell k x) = c.as_slice.ensures ∙ c.branch_cell-cell.ensures in
    let d = ap cell_of e ∙ (cell_body k x f ∙ ap (λ t. cell t x) (is_separator (goal.at.returns c).After-key)) in
    c.set_cell.ensures ∙ ap (λ t. branch (left_of c.args.self.now.bytes) (take c.args.i cs ++ t ∷ drop (c.args.i + 1) cs)) d
