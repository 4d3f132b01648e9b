use Rattle.checksum.specs.Sealed.{is_sealed}
use Rattle.checksum.proofs.page.is_sealed.Goals as goal

pub returns : goal.returns
unfolding is_sealed
returns c = cc
