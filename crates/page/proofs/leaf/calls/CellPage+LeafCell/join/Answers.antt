use Rattle.std.proofs.Common.{sym, ◌∙◌, arith}
use Rattle.std.proofs.lemmas.Bool.{false≢true}
use Rattle.tree.specs.Trees.{leaf_cost}
use Rattle.page.specs.Kinds.{leaf_rules}
use Rattle.page.specs.Layout.{cells_of}
use Rattle.page.specs.Views.{pairs_in}
use Rattle.page.proofs.BranchSteps.{light_few}
use Rattle.page.proofs.Children.{page_parts}
use Rattle.page.proofs.Fits.{pairs_cost}
use Rattle.page.proofs.LeafJoins.{pairs_rise, cells_rise}
use Rattle.page.proofs.leaf.calls.CellPage+LeafCell.join.Goals as goal

pub returns-then-not-precedes : goal.returns-then-not-precedes
returns-then-not-precedes c h =
    false≢true (c.if-not-precedes.ensures ∙ cells_rise (cells_of c.args.self.now.bytes) (cells_of c.args.right.now.bytes) h.1)

pub with_all-requires : goal.with_all-requires
with_all-requires c =
    let a = c.args.self.now.bytes in
    let b = c.args.right.now.bytes in
    let m = page_parts leaf_rules a c.args.self.now.sound in
    let n = page_parts leaf_rules b c.args.right.now.sound in
    let p = pairs_cost (cells_of a) m.1 in
    let q = pairs_cost (cells_of b) n.1 in
    let f = light_few (leaf_cost (pairs_in a)) (leaf_cost (pairs_in b)) (omega (arith, p, m.0.room)) (omega (arith, q, n.0.room)) (sym c.if-not-one_is_light.ensures) in
    record { few = omega (arith, p, q, f); rises = sym c.if-not-precedes.ensures }

pub returns : goal.returns
returns c = (
  sym c.if-not-one_is_light.ensures,
  pairs_rise (cells_of c.args.self.now.bytes) (cells_of c.args.right.now.bytes) (sym c.if-not-precedes.ensures),
  c.with_all.ensures,
)
