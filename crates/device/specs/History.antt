-- The calls that a device has answered, each with what it made of the medium.
use Rattle.std.specs.Prelude.{◌≡◌, ℕ, cond, List, [], ◌∷◌, Result, ◌==◌}
use Rattle.device.specs.Medium.{Medium}
use Rattle.device.specs.Calls.{Reads, Writes, Syncs, Returns}
use Rattle.device.specs.declared.fault.DeviceFault.{DeviceFault}

-- a call with its arguments and its answer, or a power return
pub data Event : Type 0 where
  did_read : (page : ℕ) (buffer : List ℕ) (answer : Result Unit DeviceFault) → Event
  did_write : (page : ℕ) (bytes : List ℕ) (answer : Result Unit DeviceFault) → Event
  did_sync : (answer : Result Unit DeviceFault) → Event
  power_returned : Event

pub record Step : Type 0 where
  pub before : Medium
  pub event : Event
  pub after : Medium

abbrev pub step : Medium → Event → Medium → Step
step m e n = record { before = m; event = e; after = n }

-- newest first
abbrev pub History : Type 0
History = List Step

-- the steps lead from the medium m to the medium n
abbrev pub Leads : Medium → History → Medium → Type 0
Leads m [] n = n ≡ m
Leads m (s ∷ h) n = (n ≡ s.after) × Leads m h s.before

-- the bytes that page p had when it was last durable, on a medium that was m before the steps
abbrev pub last_durable : Medium → History → ℕ → List ℕ
last_durable m [] p = m.bytes p
last_durable m (s ∷ h) p = cond (s.after.volatile p) (last_durable m h p) (s.after.bytes p)

-- the bytes of the last write to page p, refused or not; b, where there was none
abbrev pub written_by : Event → ℕ → List ℕ → List ℕ
written_by (did_read q c r) p b = b
written_by (did_write q c r) p b = cond (p == q) c b
written_by (did_sync r) p b = b
written_by power_returned p b = b

abbrev pub last_written : Medium → History → ℕ → List ℕ
last_written m [] p = m.bytes p
last_written m (s ∷ h) p = written_by s.event p (last_written m h p)

-- what the rules allow an event to do
abbrev pub Allowed : Medium → Event → Medium → Type 0
Allowed m (did_read p b r) n = Reads m p b r n
Allowed m (did_write p b r) n = Writes m p b r n
Allowed m (did_sync r) n = Syncs m r n
Allowed m power_returned n = Returns m n

-- The event e on a device. P are the histories that may have been the device's before it, and Q those that may
-- be its own after it: whichever it was, the event is one that the rules allow, and is now its newest step.
pub record Happens (P : History → Type 0) (m : Medium) (e : Event) (Q : History → Type 0) (n : Medium) : Type 0 where
  pub follows : (h : History) → P h → Allowed m e n × Q (step m e n ∷ h)

-- the same of a device that was d and is d', where past and medium say what a device means
abbrev pub HappensOn : {D : Type 0} → (past : D → History → Type 0) → (medium : D → Medium) → D → Event → D → Type 0
HappensOn past medium d e d' = Happens (past d) (medium d) e (past d') (medium d')
