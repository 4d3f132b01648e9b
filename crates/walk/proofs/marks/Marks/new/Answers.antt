use Rattle.std.proofs.Common.{false}
use Rattle.std.proofs.lemmas.List.{get_or-replicate}
use Rattle.paged.specs.Walk.{elem}
use Rattle.walk.proofs.marks.Marks.new.Goals as goal

pub returns : goal.returns
unfolding elem
returns c = λ p h. get_or-replicate 1024 p false false h
