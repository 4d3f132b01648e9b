use Rattle.std.proofs.Common.{map, arith}
use Rattle.std.proofs.lemmas.List.{length-map}
use Rattle.page.specs.Layout.{cells_of}
use Rattle.page.proofs.Children.{page_parts}
use Rattle.walk.specs.Spots.{low_of, high_of}
use Rattle.walk.proofs.Ends.{rising_climbs, ends_tell}
use Rattle.walk.proofs.spot.Spot.bounds.Goals as goal

-- the first and the last key tell of all
pub returns : goal.returns
returns g c =
    let s = c.args.self in
    let b = c.args.page.now.bytes in
    let xs = cells_of b in
    let key = g.C.Cell.rules.key in
    let rises = (page_parts g.C.Cell.rules b c.args.page.now.sound).2 in
    rw c.spans.ensures (ends_tell (low_of s) (high_of s) (map key xs) _ _ _ (rising_climbs key xs rises) c.cell_key.ensures c.cell_key-2.ensures (omega (arith, c.saturating_sub-last.ensures, c.len.ensures, length-map xs g.C.Cell.item, length-map xs key)))
