use Rattle.survey.proofs.InTrees.{parents_are_the_trees_lem}
use Rattle.survey.proofs.laws.parents_are_the_trees.Goals as goal

pub returns : goal.returns
returns c = parents_are_the_trees_lem
