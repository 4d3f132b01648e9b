-- What each call of a device may answer and do: relations between the medium before the call, its arguments,
-- its answer, and the medium after it. A device may be any that keeps them.
use Rattle.std.specs.Prelude.{◌≡◌, ℕ, ◌<◌, ◌≤◌, true, false, ◌⊎◌, List, Ok, Err, Result, ◌≢◌}
use Rattle.device.specs.Medium.{Medium, zeros, Durable}
use Rattle.device.specs.declared.fault.DeviceFault.{DeviceFault}
use Rattle.device.specs.declared.fault.DeviceFault.TheVariants.{Outside, Off}

-- Every page keeps its bytes. Any call may make volatile pages durable; none makes a durable one volatile.
pub record Keeps (m n : Medium) : Type 0 where
  pub same_size : n.size ≡ m.size
  pub same_bytes : (p : ℕ) → n.bytes p ≡ m.bytes p
  pub stays_durable : (p : ℕ) → m.volatile p ≡ false → n.volatile p ≡ false

-- the same of every page but q
pub record KeepsBut (q : ℕ) (m n : Medium) : Type 0 where
  pub same_size : n.size ≡ m.size
  pub same_bytes : (p : ℕ) → (p ≢ q) → n.bytes p ≡ m.bytes p
  pub stays_durable : (p : ℕ) → (p ≢ q) → m.volatile p ≡ false → n.volatile p ≡ false

-- the device was on for the whole call
pub record StaysOn (m n : Medium) : Type 0 where
  pub was_on : m.on ≡ true
  pub is_on : n.on ≡ true

-- the device is off after the call, and where it was off before, nothing has changed
pub record IsOff (m n : Medium) : Type 0 where
  pub is_off : n.on ≡ false
  pub still : m.on ≡ false → n ≡ m

-- A read of page p that leaves b in the caller's buffer: the bytes of the page, or zeros where it is refused.
abbrev pub Reads : Medium → ℕ → List ℕ → Result Unit DeviceFault → Medium → Type 0
Reads m p b (Ok _) n = (p < m.size) × StaysOn m n × (b ≡ m.bytes p) × Keeps m n
Reads m p b (Err Outside) n = (m.size ≤ p) × (b ≡ zeros) × (n ≡ m)
Reads m p b (Err Off) n = (p < m.size) × IsOff m n × (b ≡ zeros) × Keeps m n

-- A write of b to page p, which is then volatile or durable. One on which power fails may have replaced the
-- bytes of the page or not, and may leave it volatile.
abbrev pub Writes : Medium → ℕ → List ℕ → Result Unit DeviceFault → Medium → Type 0
Writes m p b (Ok _) n = (p < m.size) × StaysOn m n × (n.bytes p ≡ b) × KeepsBut p m n
Writes m p b (Err Outside) n = (m.size ≤ p) × (n ≡ m)
Writes m p b (Err Off) n =
    (p < m.size) × IsOff m n × ((n.bytes p ≡ b) ⊎ (n.bytes p ≡ m.bytes p)) × KeepsBut p m n

-- A sync makes every page durable.
abbrev pub Syncs : Medium → Result Unit DeviceFault → Medium → Type 0
Syncs m (Ok _) n = StaysOn m n × Durable n × Keeps m n
Syncs m (Err Outside) n = ⊥
Syncs m (Err Off) n = IsOff m n × Keeps m n

-- A power return, possible at any time: a page that was durable has its bytes. Of one that was volatile nothing
-- is known but that it holds 512 bytes, as every page of every device does.
pub record Returns (m n : Medium) : Type 0 where
  pub is_on : n.on ≡ true
  pub durable : Durable n
  pub same_size : n.size ≡ m.size
  pub keeps : (p : ℕ) → m.volatile p ≡ false → n.bytes p ≡ m.bytes p
