-- What the calls of a cache answer and do, determined by what the cache was before: c is the cache before the call,
-- and d the cache after it, over a device whose medium and past are those of R. Which page leaves a full cache is
-- left open.
use Rattle.std.specs.Prelude.{◌≡◌, ℕ, Bool, true, false, cond, ◌⊎◌, List, replicate, is_some, Some, None, Ok, Err, Option, Result, nat_lt}
use Rattle.device.specs.Medium.{zeros}
use Rattle.device.specs.History.{Event, HappensOn, did_read, did_sync, power_returned}
use Rattle.device.specs.declared.Reader.{Ghosts}
use Rattle.device.specs.declared.fault.DeviceFault.{DeviceFault}
use Rattle.device.specs.declared.fault.DeviceFault.TheVariants.{Outside, Off}
use Rattle.cache.specs.declared.copy.Copied.{Copied}
use Rattle.cache.specs.declared.cache.Cache.{Cache}
use Rattle.cache.specs.Held.{has, is_changed, copy_of, holds, slot_at, Full, cleaned, Replaces}
use Rattle.cache.specs.Cached.{pages_of, copies_of}

-- a page outside the device is refused before all else, and then every page if the device is off
abbrev pub admitted : {B : Type 0} → Ghosts B → Cache B → ℕ → Result Unit DeviceFault
admitted R c p = cond (nat_lt p (R.medium c.below).size) (cond c.off (Err Off) (Ok tt)) (Err Outside)

-- The copy o leaves so that page q can be held, if one has to: only where every slot has a page, and none has q.
pub record Leaves (ss : List (Option Copied)) (q : ℕ) (o : Option Copied) : Type 0 where
  pub was : (p : ℕ) → has o p ≡ true → copy_of ss p ≡ o
  pub only_full : is_some o ≡ true → Full ss × (holds ss q ≡ false)

-- the same copies, but that some were written below
abbrev pub Tidied : List (Option Copied) → List (Option Copied) → Type 0
Tidied ss ts = (p : ℕ) → (copy_of ts p ≡ copy_of ss p) ⊎ (copy_of ts p ≡ cleaned (copy_of ss p))

-- the slots after a call that holds the copy k, and for which o leaves; if it is refused, no page leaves
abbrev pub Taken : List (Option Copied) → Copied → Option Copied → Result Unit DeviceFault → List (Option Copied) → Type 0
Taken ss k o (Ok _) ts = Replaces o k (copy_of ss) (copy_of ts)
Taken ss k o (Err _) ts = Tidied ss ts

-- the slots, the device below and what is known of its power are the same; the order of use may differ
pub record Same {B : Type 0} (c d : Cache B) : Type 0 where
  pub same_below : d.below ≡ c.below
  pub same_slots : pages_of d ≡ pages_of c
  pub same_off : d.off ≡ c.off

-- the call e of the device below, and no other
abbrev pub Calls : {B : Type 0} → Ghosts B → Cache B → Event → Cache B → Type 0
Calls R c e d = HappensOn R.past R.medium c.below e d.below

-- A page that is not held is read below, and held. Unless a changed page leaves for it, there is no other call.
pub record Fetches {B : Type 0} (R : Ghosts B) (c : Cache B) (q : ℕ) (b : List ℕ) (r : Result Unit DeviceFault) (d : Cache B) : Type 0 where
  pub leaver : Option Copied
  pub leaves : Leaves (pages_of c) q leaver
  pub holds_it : Taken (pages_of c) (record { page = q; changed = false; bytes = b }) leaver r (pages_of d)
  pub one_call : is_changed leaver ≡ false → Calls R c (did_read q b r) d

-- A read of page q that leaves b in the caller's buffer, by whether it is admitted, and by the copy of the page.
-- A page that is held is read with no call below.
abbrev pub Reading : {B : Type 0} → Ghosts B → Result Unit DeviceFault → Option Copied → Cache B → ℕ → List ℕ → Result Unit DeviceFault → Cache B → Type 0
Reading R (Err y) o c q b r d = (r ≡ Err y) × (b ≡ zeros) × (d ≡ c)
Reading R (Ok _) (Some k) c q b r d = (r ≡ Ok tt) × (b ≡ k.bytes) × Same c d
Reading R (Ok _) None c q b r d = Fetches R c q b r d

pub record CacheReads {B : Type 0} (R : Ghosts B) (c : Cache B) (q : ℕ) (b : List ℕ) (r : Result Unit DeviceFault) (d : Cache B) : Type 0 where
  pub reads : Reading R (admitted R c q) (copies_of c q) c q b r d
  pub holds_it : r ≡ Ok tt → holds (pages_of d) q ≡ true

-- A page is written to its slot. Unless a changed page leaves for it, there is no call below.
pub record Stores {B : Type 0} (c : Cache B) (q : ℕ) (b : List ℕ) (r : Result Unit DeviceFault) (d : Cache B) : Type 0 where
  pub leaver : Option Copied
  pub leaves : Leaves (pages_of c) q leaver
  pub holds_it : Taken (pages_of c) (record { page = q; changed = true; bytes = b }) leaver r (pages_of d)
  pub no_call : is_changed leaver ≡ false → (r ≡ Ok tt) × (d.below ≡ c.below) × (d.off ≡ c.off)

-- a write of b to page q, by whether it is admitted
abbrev pub Writing : {B : Type 0} → Result Unit DeviceFault → Cache B → ℕ → List ℕ → Result Unit DeviceFault → Cache B → Type 0
Writing (Err y) c q b r d = (r ≡ Err y) × (d ≡ c)
Writing (Ok _) c q b r d = Stores c q b r d

pub record CacheWrites {B : Type 0} (R : Ghosts B) (c : Cache B) (q : ℕ) (b : List ℕ) (r : Result Unit DeviceFault) (d : Cache B) : Type 0 where
  pub writes : Writing (admitted R c q) c q b r d
  pub holds_it : r ≡ Ok tt → holds (pages_of d) q ≡ true

-- no copy is changed
abbrev pub Clean : List (Option Copied) → Type 0
Clean ss = (i : ℕ) → is_changed (slot_at ss i) ≡ false

-- every changed page was written below, or some were
abbrev pub Flushed : List (Option Copied) → Result Unit DeviceFault → List (Option Copied) → Type 0
Flushed ss (Ok _) ts = (p : ℕ) → copy_of ts p ≡ cleaned (copy_of ss p)
Flushed ss (Err _) ts = Tidied ss ts

-- a sync, by whether the device is off; where no copy is changed, it is one call below
abbrev pub Syncing : {B : Type 0} → Ghosts B → Bool → Cache B → Result Unit DeviceFault → Cache B → Type 0
Syncing R true c r d = (r ≡ Err Off) × (d ≡ c)
Syncing R false c r d =
    Flushed (pages_of c) r (pages_of d) × (Clean (pages_of c) → Calls R c (did_sync r) d)

-- no slot has a page
abbrev pub Empty : List (Option Copied) → Type 0
Empty ss = ss ≡ replicate 8 None

-- a power return: one call below, and the cache is empty
pub record CacheReturns {B : Type 0} (R : Ghosts B) (c d : Cache B) : Type 0 where
  pub empty : Empty (pages_of d)
  pub is_on : d.off ≡ false
  pub one_call : Calls R c power_returned d

-- the device says that it is off
abbrev pub says_off : {A : Type 0} → Result A DeviceFault → Bool
says_off (Ok _) = false
says_off (Err Outside) = false
says_off (Err Off) = true

-- the making of a cache over a device: one read of page 0, whose answer tells whether the device is off
pub record Makes {B : Type 0} (R : Ghosts B) (below : B) (c : Cache B) : Type 0 where
  pub buffer : List ℕ
  pub answer : Result Unit DeviceFault
  pub one_call : HappensOn R.past R.medium below (did_read 0 buffer answer) c.below
  pub empty : Empty (pages_of c)
  pub knows : c.off ≡ says_off answer
