use Rattle.std.proofs.Common.{◌+◌, [], ◌++◌, take, drop, ap, ◌∙◌, add-one, arith}
use Rattle.page.specs.Layout.{cost, cells_of, left_of}
use Rattle.page.specs.Reading.{rising}
use Rattle.page.proofs.BranchOrders.{rising_without}
use Rattle.page.proofs.Children.{page_parts, left_allowed}
use Rattle.page.proofs.OnePage.{cost_kept}
use Rattle.page.proofs.Pages.{cost_none}
use Rattle.page.proofs.cell_page.CellPage.without.Goals as goal

pub splice-requires : goal.splice-requires
splice-requires g c =
    let k = g.C.Cell.rules in
    let xs = cells_of c.args.self.now.bytes in
    let i = c.args.i in
    record {
      keep = omega arith;
      skip = omega arith;
      rises = ap (λ m. rising k.key (take i xs ++ drop m xs)) (add-one i) ∙ rising_without k.key i xs (page_parts k c.args.self.now.bytes c.args.self.now.sound).2;
    }

pub whole-requires : goal.whole-requires
whole-requires g c =
    let k = g.C.Cell.rules in
    let b = c.args.self.now.bytes in
    let p = page_parts k b c.args.self.now.sound in
    record {
      room = omega (arith, ap cost c.splice.ensures, cost_kept (cells_of b) [] c.args.i (c.args.i + 1) (omega arith), cost_none, p.0.room);
      leftmost = ap k.leftmost (c.leftmost-leftmost.ensures ∙ ap left_of c.cells.ensures.same) ∙ left_allowed k b c.args.self.now.sound;
    }
