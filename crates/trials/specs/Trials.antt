-- What is known of a simulated disk before a run, and what need not be asked of it.
use Rattle.std.specs.Prelude.{◌≡◌, ℕ, [], replicate}
use Rattle.device.specs.Medium.{Medium, Durable}
use Rattle.device.specs.History.{History, Leads}
use Rattle.disks.specs.Disks.{pages_of, disk_medium, disk_past}
use Rattle.disks.specs.Kept.{blank}
use Rattle.disks.specs.declared.disk.Disk.{Disk}
use Rattle.disks.specs.declared.stored.Stored.{Ghosts}

-- nothing is asked of the calls
abbrev pub Anything : Medium → History → Type 0
Anything m h = Unit {0}

-- the histories of P that led to the medium m from one of which every page was durable, as on a new disk
abbrev pub FromDurable : (P : History → Type 0) → Medium → History → Type 0
FromDurable P m h = P h × ((base : Medium) × Durable base × Leads base h m)

-- to a disk of blank pages, as a new one is, no call need have led, and all its pages are durable
abbrev pub BlankDisksAreDurable : {S : Type 0} → Ghosts S → Type 0
BlankDisksAreDurable {S} g = (d : Disk S g) (n : ℕ) → pages_of d ≡ replicate n blank → FromDurable (disk_past d) (disk_medium d) []
