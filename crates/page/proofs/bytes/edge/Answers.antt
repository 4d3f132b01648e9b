use Rattle.std.proofs.Common.{◌≡◌, suc, ◌+◌, ◌-◌, ◌*◌, sym, ap, ◌∙◌, arith}
use Rattle.checksum.specs.Bytes.{word16}
use Rattle.page.specs.Layout.{edge_at}
use Rattle.page.proofs.bytes.edge.Goals as goal

pub returns-then-i-eq0 : goal.returns-then-i-eq0
unfolding edge_at
returns-then-i-eq0 c = ap (edge_at c.args.page.now) (sym c.if-i-eq0.true)

pub returns-else-i-eq0 : goal.returns-else-i-eq0
unfolding edge_at
returns-else-i-eq0 c =
    let i : 14 + 2 * c.args.i ≡ 16 + 2 * (c.args.i - 1) = omega arith in
    let j : suc (c.args.i - 1) ≡ c.args.i = omega arith in
    c.read16.ensures ∙ (ap (word16 c.args.page.now) i ∙ ap (edge_at c.args.page.now) j)
