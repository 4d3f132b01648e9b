use Rattle.std.proofs.Common.{[], get_or, sym, ap, ◌∙◌, arith}
use Rattle.std.specs.List.{slice_get}
use Rattle.std.proofs.lemmas.List.{length-map}
use Rattle.std.proofs.lemmas.Option.{slice_get_within, get_or_from_slice_get}
use Rattle.checksum.specs.Bytes.{word32}
use Rattle.page.specs.Kinds.{cell_of}
use Rattle.page.specs.Layout.{cells_of, left_of}
use Rattle.page.proofs.Children.{child_later}
use Rattle.page.proofs.branch.reads.CellPage+BranchCell.child.Goals as goal

pub returns : goal.returns
returns c =
    let b = c.args.self.now.bytes in
    let xs = cells_of b in
    let j = c.in-Some.before in
    let e = sym (c.in_ok-cell.ensures ∙ ap (λ z. slice_get (cells_of z) j) c.cells-2.ensures.same) in
    child_later (left_of b) xs c.args.i c.child.result (omega arith) (omega (arith, length-map xs cell_of, slice_get_within xs j _ e, c.in-Some.ensures.1))
    (c.child.ensures ∙ (ap (λ x. word32 x 2) (sym (get_or_from_slice_get xs j _ [] e)) ∙ ap (λ n. word32 (get_or xs n []) 2) c.in-Some.ensures.1))
