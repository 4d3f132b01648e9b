use Rattle.std.proofs.Common.{sym, subst}
use Rattle.page.specs.Views.{pairs_in, FindsKey}
use Rattle.page.proofs.Finds.{found_in}
use Rattle.page.proofs.leaf.reads.CellPage+LeafCell.find.Goals as goal

pub returns : goal.returns
returns c =
    let ps = pairs_in c.args.self.now.bytes in
    let k = c.args.key.now in
    subst (FindsKey ps k) (sym c.ok.ensures.value) (found_in ps k c.seek.result c.seek.ensures)
