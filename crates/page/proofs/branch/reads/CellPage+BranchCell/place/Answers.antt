use Rattle.std.proofs.Common.{ap, ◌∙◌}
use Rattle.page.specs.Kinds.{branch_key}
use Rattle.page.specs.Layout.{cells_of}
use Rattle.page.specs.Places.{up_to}
use Rattle.page.proofs.Children.{picked_is}
use Rattle.page.proofs.branch.reads.CellPage+BranchCell.place.Goals as goal

pub returns : goal.returns
returns c =
    let k = c.args.key.now in
    c.place_above.ensures ∙ (ap (λ b. up_to branch_key k (cells_of b)) c.cells.ensures.same ∙ picked_is k (cells_of c.args.self.now.bytes))
