use Rattle.page.specs.Packed.{Packed}
use Rattle.page.proofs.cells.tests.is_packed.Given as goal

abbrev pub invariant-loop-i : goal.invariant-loop-i
invariant-loop-i g l = Packed g.C.Cell.rules l.page l.i
