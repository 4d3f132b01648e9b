use Rattle.std.proofs.Common.{ap}
use lib.Bits.{bit_xor}
use Rattle.checksum.specs.Crc.{crc_of}
use Rattle.checksum.proofs.crc.crc32.Goals as goal

pub returns : goal.returns
unfolding crc_of
returns c = ap (λ x. bit_xor x 4294967295) c.update.ensures
