-- The medium that a simulated disk is, and what each of its calls answers and does, by what it held before. The
-- type that keeps its pages is S, with the members g. In each record, d is the disk before the call and e the
-- disk after it.
use Rattle.std.specs.Prelude.{◌≡◌, ℕ, Bool, false, cond, List, length, map, is_ok, Err, Result, nat_lt, slice_set}
use Rattle.std.specs.Vec.{with_items}
use Rattle.device.specs.Medium.{Medium, zeros, Durable}
use Rattle.device.specs.History.{Event, History, HappensOn}
use Rattle.device.specs.declared.fault.DeviceFault.{DeviceFault}
use Rattle.device.specs.declared.fault.DeviceFault.TheVariants.{Outside}
use Rattle.disks.specs.Fuses.{powered, lasts, counted, renewed}
use Rattle.disks.specs.Kept.{Kept, written, settled, restored, page_at}
use Rattle.disks.specs.Accounts.{Accounts}
use Rattle.disks.specs.declared.fuse.Fuse.{Fuse}
use Rattle.disks.specs.declared.stored.Stored.{Ghosts}
use Rattle.disks.specs.declared.disk.Disk.{Disk}

abbrev pub pages_of : {S : Type 0} {g : Ghosts S} → Disk S g → List Kept
pages_of {S} {g} d = map g.kept d.pages.items

abbrev pub medium_of : List Kept → Bool → Medium
medium_of ks on = record { size = length ks; bytes = λ p. (page_at ks p).bytes; volatile = λ p. (page_at ks p).volatile; on = on }

abbrev pub past_of : Bool → List Kept → Bool → History → Type 0
past_of at_once ks on h = Accounts at_once (λ p. (page_at ks p).durable) (medium_of ks on) h

abbrev pub disk_medium : {S : Type 0} {g : Ghosts S} → Disk S g → Medium
disk_medium d = medium_of (pages_of d) (powered d.fuse)

abbrev pub disk_past : {S : Type 0} {g : Ghosts S} → Disk S g → History → Type 0
disk_past {S} {g} d = past_of g.at_once (pages_of d) (powered d.fuse)

-- the call v of the disk
abbrev pub Does : {S : Type 0} {g : Ghosts S} → Disk S g → Event → Disk S g → Type 0
Does d v e = HappensOn disk_past disk_medium d v e

-- the answer to a call that names no page
abbrev pub answer : {S : Type 0} {g : Ghosts S} → Disk S g → Result Unit DeviceFault
answer d = lasts (counted d.fuse)

-- the answer to a call that names page p, and the fuse after it: one outside the device is refused before all
-- else, and not counted
abbrev pub answer_at : {S : Type 0} {g : Ghosts S} → Disk S g → ℕ → Result Unit DeviceFault
answer_at d p = cond (nat_lt p (length (pages_of d))) (answer d) (Err Outside)

abbrev pub counted_at : {S : Type 0} {g : Ghosts S} → Disk S g → ℕ → Fuse
counted_at d p = cond (nat_lt p (length (pages_of d))) (counted d.fuse) d.fuse

-- a call that names page p is counted, and changes no page
pub record AdmitsAt {S : Type 0} {g : Ghosts S} (d : Disk S g) (p : ℕ) (r : Result Unit DeviceFault) (e : Disk S g) : Type 0 where
  pub answers : r ≡ answer_at d p
  pub same_pages : e.pages ≡ d.pages
  pub counts : e.fuse ≡ counted_at d p

-- a read of page p, with what it leaves in the caller's buffer
pub record DiskReads {S : Type 0} {g : Ghosts S} (d : Disk S g) (p : ℕ) (buffer : List ℕ) (r : Result Unit DeviceFault) (e : Disk S g) : Type 0 where
  pub admits : AdmitsAt d p r e
  pub shows : buffer ≡ cond (is_ok r) (page_at (pages_of d) p).bytes zeros

-- a write of b to page p; one that is refused changes nothing
pub record DiskWrites {S : Type 0} {g : Ghosts S} (d : Disk S g) (p : ℕ) (b : List ℕ) (r : Result Unit DeviceFault) (e : Disk S g) : Type 0 where
  pub answers : r ≡ answer_at d p
  pub replaces : pages_of e ≡ cond (is_ok r) (slice_set (pages_of d) p (written g.at_once b (page_at (pages_of d) p))) (pages_of d)
  pub counts : e.fuse ≡ counted_at d p

-- a sync; one that is refused touches no page, nor does one where all are durable. Whatever it does, the vector of the pages is
-- the same one, but for its items.
pub record DiskSyncs {S : Type 0} {g : Ghosts S} (d : Disk S g) (r : Result Unit DeviceFault) (e : Disk S g) : Type 0 where
  pub answers : r ≡ answer d
  pub settles : pages_of e ≡ cond (is_ok r) (map settled (pages_of d)) (pages_of d)
  pub same : Durable (disk_medium d) → e.pages ≡ d.pages
  pub untouched : is_ok r ≡ false → e.pages ≡ d.pages
  pub same_vector : (items : List S) × (e.pages ≡ with_items d.pages items)
  pub counts : e.fuse ≡ counted d.fuse

-- a power return; where all pages are durable, none is touched. The vector of the pages is the same one, but for its items.
pub record DiskReturns {S : Type 0} {g : Ghosts S} (d e : Disk S g) : Type 0 where
  pub restores : pages_of e ≡ map restored (pages_of d)
  pub same : Durable (disk_medium d) → e.pages ≡ d.pages
  pub same_vector : (items : List S) × (e.pages ≡ with_items d.pages items)
  pub renews : e.fuse ≡ renewed d.fuse
