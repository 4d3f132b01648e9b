use Rattle.std.proofs.Common.{refl, ap, ◌∙◌}
use Rattle.disks.specs.Disks.{disk_medium}
use Rattle.disks.specs.Fuses.{powered}
use Rattle.disks.specs.Kept.{page_at}
use Rattle.disks.proofs.Steps.{starts}
use Rattle.trials.proofs.Discharged.{blank_durable}
use Rattle.trials.proofs.blank_disks_are_durable.Goals as goal

pub returns : goal.returns
returns g c = λ d n e. (starts g.met.S.Stored.sound d.pages.items (powered d.fuse), (disk_medium d, (λ p. ap (λ ks. (page_at ks p).volatile) e ∙ blank_durable n p), refl))
