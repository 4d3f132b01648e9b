use Rattle.std.proofs.Common.{◌∙◌, rules}
use Rattle.checksum.proofs.Words.{word16_read}
use Rattle.page.proofs.bytes.read16.Goals as goal

pub returns : goal.returns
returns c =
    c.from.ensures ∙ word16_read c.args.page.now c.unwrap.result c.args.at c.from_le_bytes.result (search rules) c.from_le_bytes.ensures
