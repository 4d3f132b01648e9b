use Rattle.std.proofs.Common.{◌-◌, [], get_or, sym, ap, ◌∙◌, arith}
use Rattle.std.proofs.lemmas.List.{length-map}
use Rattle.std.proofs.lemmas.Bool.{eq-eqb}
use Rattle.cuts.specs.Keys.{key<}
use Rattle.page.specs.Kinds.{branch_key, cell_of}
use Rattle.page.specs.Layout.{cells_of}
use Rattle.page.proofs.BranchOrders.{ends_none, ends_at}
use Rattle.page.proofs.branch.edits.CellPage+BranchCell.ends_below.Goals as goal

pub returns-then-n-eq0 : goal.returns-then-n-eq0
returns-then-n-eq0 c =
    eq-eqb _ _ c.if-n-eq0.true ∙ sym (ends_none (cells_of c.args.self.now.bytes) c.args.separator.now c.args.n c.if-n-eq0.true)

pub returns-else-n-eq0 : goal.returns-else-n-eq0
returns-else-n-eq0 c =
    let xs = cells_of c.args.self.now.bytes in
    let s = c.args.separator.now in
    let e = c.cells.ensures.same in
    c.key_less.ensures
    ∙ (ap (λ k. key< k s) (c.key.ensures ∙ ap (λ z. branch_key (get_or (cells_of z) (c.args.n - 1) [])) e) ∙ sym (ends_at xs s c.args.n (omega arith) (omega (arith, length-map xs cell_of, c.requires))))
