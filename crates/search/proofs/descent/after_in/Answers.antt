use Rattle.std.proofs.Common.{sym, subst}
use Rattle.tree.specs.Maps.{first_above}
use Rattle.page.specs.Views.{leaf_pairs}
use Rattle.search.specs.Following.{InLeaf}
use Rattle.search.proofs.InLeaves.{in_leaf_if}
use Rattle.search.proofs.descent.after_in.Goals as goal

pub returns : goal.returns
returns c =
    let k = c.args.key.now in
    let leaf = c.args.leaf in
    subst (InLeaf leaf (first_above k (leaf_pairs leaf))) (sym c.then_some.ensures)
    (in_leaf_if leaf k c.above-cell.result c.above-cell.ensures c.len.result c.len.ensures)
