-- What the steps do of which the cache's calls are made.
use Rattle.std.specs.Prelude.{◌≡◌, ℕ, ◌<◌, ◌≤◌, true, false, cond, List, is_some, is_ok, None, Ok, Err, Option, Result, ◌≢◌, slice_set}
use Rattle.device.specs.Medium.{Medium, zeros}
use Rattle.device.specs.Calls.{Keeps, IsOff}
use Rattle.device.specs.declared.Reader.{Ghosts}
use Rattle.device.specs.declared.fault.DeviceFault.{DeviceFault}
use Rattle.device.specs.declared.fault.DeviceFault.TheVariants.{Outside, Off}
use Rattle.cache.specs.declared.copy.Copied.{Copied}
use Rattle.cache.specs.declared.place.Place.{Place}
use Rattle.cache.specs.declared.cache.Cache.{Cache}
use Rattle.cache.specs.Held.{has, is_changed, copy_of, copies, slot_at, Full, cleaned}
use Rattle.cache.specs.Calls.{Leaves, Tidied, Clean, Flushed}
use Rattle.cache.specs.Cached.{pages_of, cache_medium, Stands}

-- the slots after slot i was written below, or was not
abbrev pub flushed : Result Unit DeviceFault → List (Option Copied) → ℕ → List (Option Copied)
flushed r ss i = cond (is_ok r) (slice_set ss i (cleaned (slot_at ss i))) ss

-- a step after which every page shows the bytes that it had
abbrev pub Settles : Medium → Result Unit DeviceFault → Medium → Type 0
Settles m (Ok _) n = (n.on ≡ m.on) × (m.on ≡ false → n ≡ m) × Keeps m n
Settles m (Err Outside) n = ⊥
Settles m (Err Off) n = IsOff m n × Keeps m n

-- such a step, where the calls before it led to a cache that stands: it stands after the step, too
pub record Goes {B : Type 0} (R : Ghosts B) (c : Cache B) (r : Result Unit DeviceFault) (d : Cache B) : Type 0 where
  pub follows : Stands R c → Settles (cache_medium R c) r (cache_medium R d) × Stands R d

abbrev pub answer_of : {A : Type 0} → Result A DeviceFault → Result Unit DeviceFault
answer_of (Ok _) = Ok tt
answer_of (Err y) = Err y

-- the bytes that a call gives, or zeros
abbrev pub bytes_in : Result (List ℕ) DeviceFault → List ℕ
bytes_in (Ok b) = b
bytes_in (Err y) = zeros

-- the slot that a search for room answers, if it is accepted
abbrev pub Chosen : Result Place DeviceFault → Place → Type 0
Chosen (Ok j) i = j ≡ i
Chosen (Err y) i = Unit {0}

-- a slot for a page that is not held; what was in it is written below, if it was changed
pub record Rooms {B : Type 0} (R : Ghosts B) (c : Cache B) (r : Result Place DeviceFault) (d : Cache B) : Type 0 where
  pub slot : Place
  pub full : is_some (slot_at (pages_of c) slot.number) ≡ true → Full (pages_of c)
  pub chosen : Chosen r slot
  pub goes : Goes R c (answer_of r) d
  pub flushes : pages_of d ≡ flushed (answer_of r) (pages_of c) slot.number
  pub quiet : is_changed (slot_at (pages_of c) slot.number) ≡ false → (is_ok r ≡ true) × (d ≡ c)

-- Slot i of ts is the one for page q: no other slot has the page, and if the slot has another page, that one is
-- o, and is not changed. Before, the slots were ss.
pub record Placed (ss : List (Option Copied)) (q : ℕ) (i : Place) (o : Option Copied) (ts : List (Option Copied)) : Type 0 where
  pub apart : copies ts q ≤ cond (has (slot_at ts i.number) q) 1 0
  pub clean : (p : ℕ) → (p ≢ q) → has (slot_at ts i.number) p ≡ true → is_changed (slot_at ts i.number) ≡ false
  pub misses : copy_of ss q ≡ None → (is_changed (slot_at ts i.number) ≡ false) × (copy_of ts q ≡ None)
  pub there : (p : ℕ) → has o p ≡ true → has (slot_at ts i.number) p ≡ true
  pub others : (p : ℕ) → (p ≢ q) → has o p ≡ false → (has (slot_at ts i.number) p ≡ false) × (copy_of ts p ≡ copy_of ss p)

abbrev pub Places : List (Option Copied) → ℕ → Option Copied → Result Place DeviceFault → List (Option Copied) → Type 0
Places ss q o (Ok i) ts = Placed ss q i o ts
Places ss q o (Err y) ts = Unit {0}

pub record Finding {B : Type 0} (R : Ghosts B) (c : Cache B) (q : ℕ) (r : Result Place DeviceFault) (d : Cache B) : Type 0 where
  pub leaver : Option Copied
  pub leaves : Leaves (pages_of c) q leaver
  pub goes : Goes R c (answer_of r) d
  pub tidied : Tidied (pages_of c) (pages_of d)
  pub places : Places (pages_of c) q leaver r (pages_of d)
  pub quiet : is_changed leaver ≡ false → (is_ok r ≡ true) × (d ≡ c)

-- every slot is written below
pub record FlushesAll {B : Type 0} (R : Ghosts B) (c : Cache B) (r : Result Unit DeviceFault) (d : Cache B) : Type 0 where
  pub goes : Goes R c r d
  pub flushes : Flushed (pages_of c) r (pages_of d)
  pub cleans : r ≡ Ok tt → Clean (pages_of d)
  pub quiet : Clean (pages_of c) → (r ≡ Ok tt) × (d ≡ c)

-- the first k slots were written below
pub record FlushedTo {B : Type 0} (R : Ghosts B) (c : Cache B) (k : ℕ) (d : Cache B) : Type 0 where
  pub goes : Goes R c (Ok tt) d
  pub tidied : Tidied (pages_of c) (pages_of d)
  pub cleans : (i : ℕ) → i < k → is_changed (slot_at (pages_of d) i) ≡ false
  pub quiet : Clean (pages_of c) → d ≡ c
