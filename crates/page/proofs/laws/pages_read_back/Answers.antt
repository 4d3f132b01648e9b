use Rattle.page.proofs.ExactlyOne.{pages_read_back_lem}
use Rattle.page.proofs.laws.pages_read_back.Goals as goal

pub returns : goal.returns
returns c = pages_read_back_lem
