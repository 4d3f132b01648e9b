use Rattle.std.proofs.Common.{◌≤◌}
use Rattle.powercut.proofs.fare.data_pages_held.Given as goal

abbrev pub invariant-loop-n : goal.invariant-loop-n
invariant-loop-n g l = l.held ≤ l.n
