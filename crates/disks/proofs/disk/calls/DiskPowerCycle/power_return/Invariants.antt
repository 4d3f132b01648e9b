use Rattle.disks.specs.Kept.{restored}
use Rattle.disks.proofs.Pages.{Turned}
use Rattle.disks.proofs.disk.calls.DiskPowerCycle.power_return.Given as goal

abbrev pub invariant-loop-page : goal.invariant-loop-page
invariant-loop-page g l = Turned g.S.Stored.kept restored l.initial.page-items l.page-index l.page-items
