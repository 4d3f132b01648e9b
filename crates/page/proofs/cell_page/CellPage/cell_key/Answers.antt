use Rattle.std.proofs.Common.{Some, sym, ap, ◌∙◌}
use Rattle.std.specs.List.{slice_get}
use Rattle.std.specs.Option.{option_map}
use Rattle.std.proofs.lemmas.Option.{slice_get-map}
use Rattle.page.specs.Layout.{cells_of}
use Rattle.page.proofs.cell_page.CellPage.cell_key.Goals as goal

pub returns : goal.returns
returns g c =
    let key = g.C.Cell.rules.key in
    let i = c.args.i in
    let e = c.in_ok-cell.ensures ∙ ap (λ z. slice_get (cells_of z) i) c.cells.ensures.same in
    ap Some c.key.ensures ∙ (ap (option_map key) e ∙ sym (slice_get-map key (cells_of c.args.self.now.bytes) i))
