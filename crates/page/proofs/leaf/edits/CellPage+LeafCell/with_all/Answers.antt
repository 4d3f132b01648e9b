use Rattle.std.proofs.Common.{◌≡◌, length, ap, ◌∙◌, arith}
use Rattle.std.proofs.lemmas.List.{length-map}
use Rattle.page.specs.Kinds.{pair_of}
use Rattle.page.specs.Layout.{cost, cells_of}
use Rattle.page.proofs.LeafJoins.{all_first}
use Rattle.page.proofs.Pages.{cost_append}
use Rattle.page.proofs.leaf.edits.CellPage+LeafCell.with_all.Goals as goal
use Rattle.page.proofs.leaf.edits.CellPage+LeafCell.with_all.Goals.{After-len}

all : (c : After-len) → c.len.result ≡ length (cells_of c.args.self.now.bytes)
all c = c.len.ensures ∙ length-map (cells_of c.args.self.now.bytes) pair_of

pub leaves-requires : goal.leaves-requires
leaves-requires c =
    let xs = cells_of c.args.self.now.bytes in
    let ys = cells_of c.args.right.now.bytes in
    let n = all (goal.at.leaves-requires c).After-len in
    omega (arith, ap cost (c.splice.ensures ∙ all_first xs ys c.len.result n), cost_append xs ys, c.requires.few)
