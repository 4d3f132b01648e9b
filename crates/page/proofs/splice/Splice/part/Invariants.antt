use Rattle.std.proofs.Common.{◌≡◌}
use Rattle.std.specs.List.{between}
use Rattle.page.specs.Layout.{cells_of, left_of}
use Rattle.page.specs.Lists.{cells_in}
use Rattle.page.proofs.splice.Splice.part.Given as goal

abbrev pub invariant-loop-i : goal.invariant-loop-i
invariant-loop-i g l = (left_of l.draft.bytes ≡ l.leftmost) × (cells_of l.draft.bytes ≡ between l.from l.i (cells_in l.self))
