use Rattle.meta.proofs.Judged.{pages_read_back_lem}
use Rattle.meta.proofs.laws.pages_read_back.Goals as goal

pub returns : goal.returns
returns c = pages_read_back_lem
