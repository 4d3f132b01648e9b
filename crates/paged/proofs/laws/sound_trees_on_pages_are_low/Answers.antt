use Rattle.paged.proofs.Lowness.{sound_trees_on_pages_are_low_lem}
use Rattle.paged.proofs.laws.sound_trees_on_pages_are_low.Goals as goal

pub returns : goal.returns
returns c = sound_trees_on_pages_are_low_lem
