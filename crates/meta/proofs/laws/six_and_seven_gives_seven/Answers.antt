use Rattle.meta.proofs.Judged.{six_and_seven}
use Rattle.meta.proofs.laws.six_and_seven_gives_seven.Goals as goal

pub returns : goal.returns
returns c = six_and_seven
