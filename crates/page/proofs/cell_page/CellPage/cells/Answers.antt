use Rattle.std.proofs.Common.{refl}
use Rattle.page.proofs.Children.{page_parts}
use Rattle.page.proofs.cell_page.CellPage.cells.Goals as goal

pub invariant_of-result : goal.invariant_of-result
invariant_of-result g c =
    let p = page_parts g.C.Cell.rules c.args.self.now.bytes c.args.self.now.sound in
    record { laid = p.0; goods = p.1 }

pub returns : goal.returns
returns g c = record { same = refl; rises = (page_parts g.C.Cell.rules c.args.self.now.bytes c.args.self.now.sound).2 }
