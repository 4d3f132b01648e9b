use Rattle.std.proofs.Common.{◌≡◌, ◌++◌, sym, ap, ◌∙◌, arith}
use Rattle.page.specs.Kinds.{leaf_key}
use Rattle.page.specs.Layout.{cells_of}
use Rattle.page.specs.Reading.{rising}
use Rattle.page.proofs.LeafJoins.{both_rise}
use Rattle.page.proofs.Orders.{less_at}
use Rattle.page.proofs.leaf.edits.CellPage+LeafCell.precedes.Goals as goal
use Rattle.page.proofs.leaf.edits.CellPage+LeafCell.precedes.Goals.{After-cells-right}

-- over the pages that were tested
same : (c : After-cells-right) → rising leaf_key (cells_of c.cells-left.result.page.now ++ cells_of c.cells-right.result.page.now) ≡ rising leaf_key (cells_of c.args.self.now.bytes ++ cells_of c.args.right.now.bytes)
same c =
    ap (λ b. rising leaf_key (cells_of b ++ cells_of c.cells-right.result.page.now)) c.cells-left.ensures.same
    ∙ ap (λ b. rising leaf_key (cells_of c.args.self.now.bytes ++ cells_of b)) c.cells-right.ensures.same

pub returns : goal.returns
returns c =
    let xs = cells_of c.cells-left.result.page.now in
    let ys = cells_of c.cells-right.result.page.now in
    sym (both_rise xs ys c.len-3.result c.len-3.ensures (omega arith) (omega arith) c.cells-left.ensures.rises c.cells-right.ensures.rises ∙ less_at c.key.ensures c.key-2.ensures c.key_less.ensures)
    ∙ same (goal.at.returns c).After-cells-right
