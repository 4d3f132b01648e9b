use Rattle.std.proofs.Common.{rules}
use Rattle.checksum.proofs.Words.{word32_read}
use Rattle.page.proofs.body.reads.Body+BranchCell.child.Goals as goal

pub returns : goal.returns
returns c = word32_read c.args.self.now.bytes.now c.unwrap.result 2 c.from_le_bytes.result (search rules) c.from_le_bytes.ensures
