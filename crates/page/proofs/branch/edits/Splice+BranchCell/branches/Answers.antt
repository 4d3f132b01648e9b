use Rattle.std.proofs.Common.{◌+◌, map, ap, ◌∙◌, arith}
use Rattle.tree.specs.Trees.{branch}
use Rattle.page.specs.Kinds.{branch_key, cell_of}
use Rattle.page.specs.Layout.{cells_of}
use Rattle.page.specs.Lists.{cells_in}
use Rattle.checksum.specs.Bytes.{word32}
use Rattle.page.proofs.Branches.{fits_one, fits_two}
use Rattle.page.proofs.Parts.{map_between}
use Rattle.page.proofs.Splices.{list_good}
use Rattle.page.proofs.branch.edits.Splice+BranchCell.branches.Goals as goal

pub returns-then-cost-le-USABLE : goal.returns-then-cost-le-USABLE
returns-then-cost-le-USABLE c =
    let s = c.args.self.now in
    fits_one c.args.leftmost (cells_in s) (list_good s) _ (omega (arith, c.cost.ensures.value))
    (ap (λ l. branch l (map cell_of (cells_of c.whole.result.bytes))) c.whole.ensures.left ∙ ap (λ xs. branch c.args.leftmost (map cell_of xs)) c.whole.ensures.cells)

pub returns : goal.returns
returns c =
    let s = c.args.self.now in
    let xs = cells_in s in
    let n = c.len.result in
    let i = c.branch_cut-at.result in
    let p = c.part.result.bytes in
    let q = c.part-2.result.bytes in
    fits_two c.args.leftmost xs (list_good s) i n _ _ _ (omega (arith, c.cost.ensures.value)) c.branch_cut-at.ensures.parts c.branch_cut-at.ensures.value c.len.ensures
    (ap (λ l. branch l (map cell_of (cells_of p))) c.part.ensures.left ∙ ap (branch c.args.leftmost) (ap (map cell_of) c.part.ensures.cells ∙ map_between cell_of 0 i xs))
    (c.separator.ensures ∙ ap branch_key c.get-given.ensures)
    (ap (λ l. branch l (map cell_of (cells_of q))) (c.part-2.ensures.left ∙ (c.child.ensures ∙ ap (λ b. word32 b 2) c.get-given.ensures))
    ∙ ap (branch (word32 _ 2)) (ap (map cell_of) c.part-2.ensures.cells ∙ map_between cell_of (i + 1) n xs))
