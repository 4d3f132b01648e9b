use Rattle.std.proofs.Common.{rules}
use Rattle.disks.specs.Fuses.{powered}
use Rattle.disks.specs.Kept.{blank}
use Rattle.disks.proofs.Pages.{filled_alike}
use Rattle.disks.proofs.Steps.{starts}
use Rattle.disks.proofs.disk.Disk.new.Goals as goal

pub returns-clause-pages : goal.returns-clause-pages
returns-clause-pages g c =
    let r = c.in_ok-resize_with.ensures in
    filled_alike _ g.S.Stored.kept blank (λ p x q k. search rules) _ _ _ c.args.pages c.new-kept.ensures.items r.items (search rules)

pub returns-clause-past : goal.returns-clause-past
returns-clause-past g c = starts g.met.S.Stored.sound c.resize_with.new.self.items (powered c.new.result)
