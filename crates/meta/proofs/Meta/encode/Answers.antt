use Rattle.std.proofs.Common.{◌∙◌}
use Rattle.checksum.proofs.Words.{le64_is}
use Rattle.meta.proofs.Pages.{encoded}
use Rattle.meta.proofs.Meta.encode.Goals as goal

pub returns : goal.returns
returns c =
    c.seal.ensures.after
    ∙ encoded c.args.self.now c.into.ensures
    (c.copy_from_slice.ensures.after ∙ c.to_le_bytes.ensures) (c.copy_from_slice-2.ensures.after ∙ c.to_le_bytes-2.ensures)
    (c.copy_from_slice-3.ensures.after ∙ (c.to_le_bytes-3.ensures ∙ le64_is c.args.self.now.commit))
    (c.copy_from_slice-4.ensures.after ∙ c.to_le_bytes-4.ensures)
