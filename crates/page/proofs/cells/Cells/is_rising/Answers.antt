use Rattle.std.proofs.Common.{◌≡◌, ◌+◌, ◌-◌, true, false, ◌&&◌, [], get_or, drop, refl, sym, ap, ◌∙◌, arith}
use Rattle.cuts.specs.Keys.{key<}
use Rattle.page.specs.Layout.{cells_of}
use Rattle.page.specs.Reading.{rising}
use Rattle.page.proofs.Orders.{less_at, rising_step, rising_end}
use Rattle.page.proofs.cells.Cells.is_rising.Goals as goal

pub returns-then-len-eq0 : goal.returns-then-len-eq0
returns-then-len-eq0 g c = sym (rising_end g.C.Cell.rules.key (cells_of c.args.self.now.page.now) 0 (omega arith))

pub loop-i-init : goal.loop-i-init
loop-i-init g c = (refl, c.key-before.ensures)

pub returns-then-not-key_less : goal.returns-then-not-key_less
returns-then-not-key_less g c =
    let key = g.C.Cell.rules.key in
    let xs = cells_of c.args.self.now.page.now in
    let i = c.loop-i.i in
    let e : key< (key (get_or xs (i - 1) [])) (key (get_or xs i [])) ≡ false = less_at c.loop-i.invariant.1 c.key-key.ensures c.if-not-key_less.ensures in
    sym (sym c.loop-i.invariant.0 ∙ (rising_step key xs i (omega arith) (omega arith) ∙ ap (λ t. t && rising key (drop i xs)) e))

pub loop-i-preserved : goal.loop-i-preserved
loop-i-preserved g c =
    let key = g.C.Cell.rules.key in
    let xs = cells_of c.args.self.now.page.now in
    let i = c.loop-i.i in
    let e : key< (key (get_or xs (i - 1) [])) (key (get_or xs i [])) ≡ true = less_at c.loop-i.invariant.1 c.key-key.ensures c.if-not-key_less.ensures in
    let n : i + 1 - 1 ≡ i = omega arith in (
      ap (λ m. rising key (drop m xs)) n ∙ (sym (rising_step key xs i (omega arith) (omega arith) ∙ ap (λ t. t && rising key (drop i xs)) e) ∙ c.loop-i.invariant.0),
      c.key-key.ensures ∙ sym (ap (λ m. key (get_or xs m [])) n),
    )

pub returns : goal.returns
returns g c =
    let key = g.C.Cell.rules.key in
    let xs = cells_of c.args.self.now.page.now in
    sym (rising_end key xs (c.loop-i.i - 1) (omega arith)) ∙ c.loop-i.invariant.0
