use Rattle.survey.proofs.Standing.{places_are_the_trees_lem}
use Rattle.survey.proofs.laws.places_are_the_trees.Goals as goal

pub returns : goal.returns
returns c = places_are_the_trees_lem
