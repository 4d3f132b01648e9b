use Rattle.std.proofs.Common.{map, ap, ◌∙◌, arith}
use Rattle.page.specs.Kinds.{pair_of}
use Rattle.page.specs.Lists.{cells_in}
use Rattle.page.proofs.Fits.{fits_one, fits_two}
use Rattle.page.proofs.Parts.{map_between}
use Rattle.page.proofs.Splices.{list_good}
use Rattle.page.proofs.leaf.edits.Splice+LeafCell.leaves.Goals as goal

pub returns-then-cost-le-USABLE : goal.returns-then-cost-le-USABLE
returns-then-cost-le-USABLE c =
    let s = c.args.self.now in
    fits_one (cells_in s) (list_good s) _ (omega (arith, c.cost.ensures.value)) (ap (map pair_of) c.whole.ensures.cells)

pub returns : goal.returns
returns c =
    let s = c.args.self.now in
    let xs = cells_in s in
    let i = c.leaf_cut-at.result in
    fits_two xs (list_good s) i c.len.result _ _ _ (omega (arith, c.cost.ensures.value)) c.leaf_cut-at.ensures.parts c.leaf_cut-at.ensures.value c.len.ensures
    (ap (map pair_of) c.part.ensures.cells ∙ map_between pair_of 0 i xs) c.separator.ensures (ap (map pair_of) c.part-2.ensures.cells ∙ map_between pair_of i c.len.result xs)
