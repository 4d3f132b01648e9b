use Rattle.cases.proofs.Worked.{examples}
use Rattle.cases.proofs.examples.examples_hold.Goals as goal

pub returns : goal.returns
returns c = examples c.six_and_seven_gives_seven.ensures c.seven_is_not_for_page_zero.ensures
