use Rattle.std.proofs.Common.{refl, ap, ◌∙◌, rules}
use Rattle.checksum.specs.Bytes.{le32}
use Rattle.checksum.specs.Sealed.{sealed, checksum_of}
use Rattle.checksum.proofs.Over.{put_over}
use Rattle.checksum.proofs.page.seal.Goals as goal

pub returns : goal.returns
unfolding sealed
returns c = record {
  after = put_over 12 4 c.args.page.now _ (le32 (checksum_of c.args.page.now)) refl
      (c.copy_from_slice.ensures.after ∙ (c.to_le_bytes.ensures ∙ ap le32 c.checksum-sum.ensures));
  word = search rules;
}
