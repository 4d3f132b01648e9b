use Rattle.std.proofs.Common.{refl, sym, ◌∙◌, arith}
use Rattle.paged.specs.Walk.{elem}
use Rattle.page.specs.Views.{branch_node}
use Rattle.survey.proofs.Adopting.{adopt_more, adopt_last}
use Rattle.survey.proofs.parents.Parents.adopt.Goals as goal

pub loop-i-init : goal.loop-i-init
unfolding elem
loop-i-init c = λ p h. refl

pub loop-i-preserved : goal.loop-i-preserved
loop-i-preserved c = adopt_more (branch_node c.args.branch.now) c.loop-i.i c.unwrap.result (sym c.unwrap.ensures ∙ c.child.ensures) c.args.parent c.args.self.now.parents c.loop-i.self.parents _ c.loop-i.self.long c.set.ensures c.loop-i.invariant

pub returns-2 : goal.returns-2
returns-2 c = adopt_last (branch_node c.args.branch.now) c.loop-i.i c.unwrap.result (sym c.unwrap.ensures ∙ c.child.ensures) c.args.parent c.args.self.now.parents c.loop-i.self.parents _ c.loop-i.self.long c.set.ensures (omega (arith, c.len-i-end.ensures, c.loop-i-test.true)) c.loop-i.invariant
