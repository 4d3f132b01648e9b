use Rattle.disks.specs.Kept.{settled}
use Rattle.disks.proofs.Pages.{Turned}
use Rattle.disks.proofs.disk.calls.DiskDevice.sync.Given as goal

abbrev pub invariant-loop-page : goal.invariant-loop-page
invariant-loop-page g l = Turned g.S.Stored.kept settled l.initial.page-items l.page-index l.page-items
