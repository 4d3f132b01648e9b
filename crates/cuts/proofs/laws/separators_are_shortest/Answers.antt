use Rattle.cuts.proofs.Separators.{separators_are_shortest_lem}
use Rattle.cuts.proofs.laws.separators_are_shortest.Goals as goal

pub returns : goal.returns
returns c = separators_are_shortest_lem
