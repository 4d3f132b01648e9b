use Rattle.std.proofs.Common.{◌≡◌, ◌+◌, ◌-◌, ◌/◌, true, false, [], get_or, refl, arith}
use Rattle.cuts.specs.Keys.{key<}
use Rattle.page.specs.Layout.{cells_of}
use Rattle.page.proofs.Orders.{less_at}
use Rattle.page.proofs.Places.{up_to_is, front_at_most, back_above}
use Rattle.page.proofs.cells.Cells.place_above.Goals as goal

pub loop-low-preserved-then-key_less : goal.loop-low-preserved-then-key_less
loop-low-preserved-then-key_less g c =
    let xs = cells_of c.args.self.now.page.now in
    let key = g.C.Cell.rules.key in
    let m = c.loop-low.low + (c.loop-low.high - c.loop-low.low) / 2 in
    let b : key< c.args.sought.now (key (get_or xs m [])) ≡ true = less_at refl c.key.ensures c.if-key_less.ensures in
    (omega arith, omega arith, c.loop-low.invariant.2, back_above key c.args.sought.now xs c.requires m (omega arith) b)

pub loop-low-preserved : goal.loop-low-preserved
loop-low-preserved g c =
    let xs = cells_of c.args.self.now.page.now in
    let key = g.C.Cell.rules.key in
    let m = c.loop-low.low + (c.loop-low.high - c.loop-low.low) / 2 in
    let b : key< c.args.sought.now (key (get_or xs m [])) ≡ false = less_at refl c.key.ensures c.if-key_less.ensures in
    (omega arith, c.loop-low.invariant.1, front_at_most key c.args.sought.now xs c.requires m (omega arith) b, c.loop-low.invariant.3)

pub returns : goal.returns
returns g c =
    up_to_is g.C.Cell.rules.key c.args.sought.now (cells_of c.args.self.now.page.now) c.loop-low.low (omega arith) c.loop-low.invariant.2 (λ j l h. c.loop-low.invariant.3 j (omega arith) h)
