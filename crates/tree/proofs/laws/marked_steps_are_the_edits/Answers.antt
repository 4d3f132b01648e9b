use Rattle.tree.proofs.Making.{marked_steps_are_the_edits_lem}
use Rattle.tree.proofs.laws.marked_steps_are_the_edits.Goals as goal

pub returns : goal.returns
returns c = marked_steps_are_the_edits_lem
