use Rattle.std.proofs.Common.{rules}
use Rattle.checksum.proofs.Words.{word32_read, word64_read}
use Rattle.meta.proofs.read.fields.Goals as goal

pub returns : goal.returns
returns c =
    let b = c.args.bytes.now in
    let p = word32_read b c.unwrap.result 4 c.from_le_bytes.result (search rules) c.from_le_bytes.ensures in
    let r = word32_read b c.unwrap-2.result 8 c.from_le_bytes-2.result (search rules) c.from_le_bytes-2.ensures in
    let m = word64_read b c.unwrap-3.result 16 c.from_le_bytes-3.result (search rules) c.from_le_bytes-3.ensures in
    let n = word32_read b c.unwrap-4.result 24 c.from_le_bytes-4.result (search rules) c.from_le_bytes-4.ensures in
    cc
