use Rattle.meta.proofs.Judged.{seven_not_for_zero}
use Rattle.meta.proofs.laws.seven_is_not_for_page_zero.Goals as goal

pub returns : goal.returns
returns c = seven_not_for_zero
