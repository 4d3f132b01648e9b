use Rattle.std.proofs.Common.{◌≡◌, ◌<◌, length, sym, ap, ◌∙◌, arith, rules}
use Rattle.std.proofs.lemmas.Bool.{true≢false}
use Rattle.page.specs.Layout.{cells_of}
use Rattle.page.proofs.Tested.{not_laid, every_at, part_is, edges_down, edge_low, packed_none, packed_more}
use Rattle.page.proofs.cells.tests.is_packed.Goals as goal

pub loop-i-init : goal.loop-i-init
loop-i-init g c =
    let len : length c.args.page.now ≡ 512 = search rules in
    packed_none g.C.Cell.rules c.args.page.now len (omega arith)

pub returns-then-from-end : goal.returns-then-from-end
returns-then-from-end g c =
    let page = c.args.page.now in
    let i = c.loop-i.i in
    not_laid g.C.Cell.rules page (λ j. c.fits-page j) (λ p.
    let d = edges_down g.C.Cell.rules.kind page p.laid i (omega arith) in omega arith)

pub returns-then-from-n : goal.returns-then-from-n
returns-then-from-n g c =
    let page = c.args.page.now in
    let i = c.loop-i.i in
    not_laid g.C.Cell.rules page (λ j. c.fits-page j) (λ p.
    let d = edge_low g.C.Cell.rules.kind page p.laid i (omega arith) in omega arith)

pub returns-then-not-is_good : goal.returns-then-not-is_good
returns-then-not-is_good g c =
    let page = c.args.page.now in
    let i = c.loop-i.i in
    let h : i < length (cells_of page) = omega arith in
    let b = part_is page i c.edge-from.result c.edge-end.result h c.edge-from.ensures c.edge-end.ensures in
    not_laid g.C.Cell.rules page (λ j. c.fits-page j) (λ p.
    true≢false (sym (every_at g.C.Cell.rules.good (cells_of page) i p.goods h) ∙ (ap g.C.Cell.rules.good (sym b) ∙ sym c.if-not-is_good.ensures)))

pub loop-i-preserved : goal.loop-i-preserved
loop-i-preserved g c =
    let page = c.args.page.now in
    let i = c.loop-i.i in
    let len : length page ≡ 512 = search rules in
    packed_more g.C.Cell.rules page i c.edge-from.result c.edge-end.result (λ j. c.fits-page j) len (omega arith) (omega arith) c.edge-from.ensures c.edge-end.ensures (omega arith) (omega arith) (sym c.if-not-is_good.ensures) c.loop-i.invariant
