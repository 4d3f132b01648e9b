use Rattle.disks.specs.Fuses.{powered}
use Rattle.disks.proofs.Steps.{starts}
use Rattle.disks.proofs.disk.Disk.with_limit.Goals as goal

pub returns-clause-past : goal.returns-clause-past
returns-clause-past g c = starts g.met.S.Stored.sound c.power_return.new.self.pages.items (powered c.new-self.result)
