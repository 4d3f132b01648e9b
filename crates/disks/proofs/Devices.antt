-- What a disk is, by whether its writes are durable at once.
use Rattle.std.proofs.Common.{◌≡◌, true, false, Result, ap}
use Rattle.device.specs.Medium.{Durable}
use Rattle.device.specs.declared.fault.DeviceFault.{DeviceFault}
use Rattle.disks.specs.declared.stored.Stored.{Ghosts}
use Rattle.disks.specs.declared.disk.Disk.{Disk}
use Rattle.disks.specs.Kept.{Sound, page_at}
use Rattle.disks.specs.Accounts.{NeverVolatile, Remembers, Accounts}
use Rattle.disks.specs.Disks.{pages_of, disk_medium, disk_past, DiskSyncs, DiskReturns}
use Rattle.disks.proofs.Pages.{sound_at}

-- the histories that may have led to it
pub at_once_past : {S : Type 0} {g : Ghosts S} → g.at_once ≡ true → (d : Disk S g) → disk_past d ≡ NeverVolatile
at_once_past e d = ap (λ a. Accounts a (λ p. (page_at (pages_of d) p).durable) (disk_medium d)) e

pub at_sync_past : {S : Type 0} {g : Ghosts S} → g.at_once ≡ false → (d : Disk S g) → disk_past d ≡ Remembers (λ p. (page_at (pages_of d) p).durable) (disk_medium d)
at_sync_past e d = ap (λ a. Accounts a (λ p. (page_at (pages_of d) p).durable) (disk_medium d)) e

-- where writes are durable at once, no page is volatile, so neither a sync nor a power return touches any
module _ {S : Type 0} {g : Ghosts S} (sound : (s : S) → Sound g.at_once (g.kept s)) (once : g.at_once ≡ true) (d e : Disk S g) where
  pub never_volatile : Durable (disk_medium d)
  never_volatile p = (sound_at g.at_once g.kept sound d.pages.items p).never once

  pub sync_touches_none : (r : Result Unit DeviceFault) → DiskSyncs d r e → e.pages ≡ d.pages
  sync_touches_none r x = x.same never_volatile

  pub return_touches_none : DiskReturns d e → e.pages ≡ d.pages
  return_touches_none x = x.same never_volatile
