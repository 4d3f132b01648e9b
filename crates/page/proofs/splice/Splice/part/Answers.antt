use Rattle.std.proofs.Common.{[], ◌+◌, ◌∷◌, length, get_or, ap, ◌∙◌, arith}
use Rattle.std.specs.List.{between}
use Rattle.std.proofs.lemmas.List.Edits.{between_more}
use Rattle.page.specs.Layout.{cost, cells_of}
use Rattle.page.specs.Lists.{cells_in}
use Rattle.page.specs.Reading.{rising}
use Rattle.page.proofs.Costs.{one_more}
use Rattle.page.proofs.Pages.{cost_append, cost_one, cost_between_lem}
use Rattle.page.proofs.Parts.{rising_between}
use Rattle.page.proofs.splice.Splice.part.Goals as goal

pub push-requires : goal.push-requires
push-requires g c =
    let xs = cells_in c.args.self.now in
    let i = c.loop-i.i in
    let a = c.args.from in
    let more = between_more xs a i [] c.loop-i.auto.i (omega arith) in
    omega (arith, ap length c.get.ensures, ap cost c.loop-i.invariant.1, ap cost more, cost_append (between a i xs) (get_or xs i [] ∷ []), cost_one (get_or xs i []), cost_between_lem a (i + 1) c.args.to xs (omega arith), c.requires.room)

pub loop-i-preserved : goal.loop-i-preserved
loop-i-preserved g c =
    let xs = cells_in c.args.self.now in
    let i = c.loop-i.i in
    let a = c.args.from in
    let more = between_more xs a i [] c.loop-i.auto.i (omega arith) in
    (c.push.ensures.left ∙ c.loop-i.invariant.0, one_more xs (cells_of c.loop-i.draft.bytes) a i c.get.result.bytes.now c.push.ensures.cells c.loop-i.invariant.1 c.get.ensures more)

pub finish-requires-clause-rises : goal.finish-requires-clause-rises
finish-requires-clause-rises g c =
    let s = c.args.self.now in
    let k = g.C.Cell.rules in
    ap (rising k.key) c.loop-i.invariant.1 ∙ rising_between k.key c.args.from c.loop-i.i (cells_in s) s.spliced.rises
