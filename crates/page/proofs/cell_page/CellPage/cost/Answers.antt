use Rattle.std.proofs.Common.{◌≡◌, true, sym, ap, ◌∙◌}
use Rattle.page.specs.Layout.{cells_of, cost}
use Rattle.page.specs.Reading.{every}
use Rattle.page.proofs.Children.{page_parts}
use Rattle.page.proofs.Items.{items_cost}
use Rattle.page.proofs.Pages.{all_is}
use Rattle.page.proofs.cell_page.CellPage.cost.Goals as goal

pub returns : goal.returns
returns g c =
    let b = c.args.self.now.bytes in
    let xs = cells_of b in
    let e = c.cells-cells.ensures.same in
    let h : every g.C.Cell.rules.good xs ≡ true = (page_parts g.C.Cell.rules b c.args.self.now.sound).1 in
    c.cost.ensures.value ∙ (ap cost (all_is c.len.result _ c.len.ensures ∙ ap cells_of e) ∙ sym (items_cost g.C.Cell.item g.C.Cell.item_cost g.C.Cell.rules.good g.met.C.Cell.costs xs h))
