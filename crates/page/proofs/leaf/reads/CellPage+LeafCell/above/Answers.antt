use Rattle.std.proofs.Common.{sym, ap, ◌∙◌}
use Rattle.page.specs.Kinds.{leaf_key}
use Rattle.page.specs.Layout.{cells_of}
use Rattle.page.specs.Places.{up_to}
use Rattle.page.proofs.Finds.{up_to_pairs}
use Rattle.page.proofs.leaf.reads.CellPage+LeafCell.above.Goals as goal

pub returns : goal.returns
returns c =
    let k = c.args.key.now in
    c.place_above.ensures ∙ (ap (λ b. up_to leaf_key k (cells_of b)) c.cells.ensures.same ∙ sym (up_to_pairs k (cells_of c.args.self.now.bytes)))
