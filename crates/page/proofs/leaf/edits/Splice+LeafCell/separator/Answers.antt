use Rattle.std.proofs.Common.{◌-◌, [], length, get_or, ap, ◌∙◌, arith}
use Rattle.std.proofs.lemmas.List.{length-take-le}
use Rattle.page.specs.Kinds.{leaf_good, leaf_key}
use Rattle.page.specs.Lists.{cells_in}
use Rattle.page.proofs.Leaves.{key_short}
use Rattle.page.proofs.Splices.{list_good}
use Rattle.page.proofs.Tested.{every_at}
use Rattle.page.proofs.leaf.edits.Splice+LeafCell.separator.Goals as goal

pub push-requires : goal.push-requires
push-requires c =
    let s = c.args.self.now in
    let xs = cells_in s in
    let k = key_short (get_or xs c.args.at []) (every_at leaf_good xs c.args.at (list_good s) c.requires.within) in
    let e = ap length (c.key-after.ensures ∙ ap leaf_key c.get-2.ensures) in
    let w = c.separator_len.ensures.within in
    let t = length-take-le (c.separator_len.result - 0) c.key-after.result.now (omega arith) in
    omega (arith, ap length c.new-separator.ensures, t)
