use Rattle.std.proofs.Common.{rules}
use Rattle.std.proofs.lemmas.List.{drop-drop}
use Rattle.checksum.specs.Bytes.{over}
use Rattle.page.proofs.bytes.put.Goals as goal

pub returns : goal.returns
unfolding over
returns c = search (rules, drop-drop)
