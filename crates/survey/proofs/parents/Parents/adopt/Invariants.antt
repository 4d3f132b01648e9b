use Rattle.std.proofs.Common.{take}
use Rattle.page.specs.Views.{branch_node}
use Rattle.paged.specs.Paged.{children}
use Rattle.survey.specs.Families.{Adopts}
use Rattle.survey.proofs.parents.Parents.adopt.Given as goal

abbrev pub invariant-loop-i : goal.invariant-loop-i
invariant-loop-i l = Adopts (take l.i (children (branch_node l.branch))) l.parent l.initial.self.parents l.self.parents
