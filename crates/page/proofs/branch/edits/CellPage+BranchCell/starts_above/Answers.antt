use Rattle.std.proofs.Common.{[], get_or, sym, ap, ◌∙◌, arith}
use Rattle.std.proofs.lemmas.Bool.{le-leb}
use Rattle.cuts.specs.Keys.{key<}
use Rattle.page.specs.Kinds.{branch_key}
use Rattle.page.specs.Layout.{cells_of}
use Rattle.page.proofs.BranchOrders.{starts_none, starts_at}
use Rattle.page.proofs.Splices.{length_same}
use Rattle.page.proofs.branch.edits.CellPage+BranchCell.starts_above.Goals as goal

pub returns-then-n-len : goal.returns-then-n-len
returns-then-n-len c =
    le-leb _ _ c.if-n-len.true ∙ sym (starts_none (cells_of c.args.self.now.bytes) c.args.separator.now c.args.n (omega (arith, length_same c.cells-cells.ensures.same)))

pub returns-else-n-len : goal.returns-else-n-len
returns-else-n-len c =
    let xs = cells_of c.args.self.now.bytes in
    let s = c.args.separator.now in
    let e = c.cells-cells.ensures.same in
    c.key_less.ensures
    ∙ (ap (key< s) (c.key.ensures ∙ ap (λ z. branch_key (get_or (cells_of z) c.args.n [])) e) ∙ sym (starts_at xs s c.args.n (omega (arith, length_same e))))
