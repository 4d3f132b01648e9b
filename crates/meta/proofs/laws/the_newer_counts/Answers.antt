use Rattle.meta.proofs.Judged.{the_newer_counts_lem}
use Rattle.meta.proofs.laws.the_newer_counts.Goals as goal

pub returns : goal.returns
returns c = the_newer_counts_lem
