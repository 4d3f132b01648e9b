use Rattle.tree.proofs.Natural.{steps_commute_with_reading_lem}
use Rattle.tree.proofs.laws.steps_commute_with_reading.Goals as goal

pub returns : goal.returns
returns c = steps_commute_with_reading_lem
