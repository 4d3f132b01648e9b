-- The table is the list of what eight steps make of each byte: both are computed, and found equal.
use Rattle.std.proofs.Common.{◌∙◌, zero-add, arith}
use Rattle.std.proofs.lemmas.List.FromFn.{get_or-map-range_with_len}
use Rattle.checksum.specs.Crc.{steps}
use Rattle.checksum.proofs.table.entry.Goals as goal

pub returns : goal.returns
returns c = get_or-map-range_with_len (steps 8) 0 256 c.from.result c.args.byte 0 (omega arith) (zero-add c.from.result ∙ c.from.ensures)
