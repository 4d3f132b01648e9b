use Rattle.tree.proofs.Flat.{puts_insert_and_removes_delete_lem}
use Rattle.tree.proofs.laws.puts_insert_and_removes_delete.Goals as goal

pub returns : goal.returns
returns c = puts_insert_and_removes_delete_lem
