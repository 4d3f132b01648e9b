-- Stretches of calls that only read.
use Rattle.std.specs.Prelude.{◌≡◌, ℕ, List, [], ◌∷◌, ◌++◌, Result}
use Rattle.std.specs.List.{AllByRecursion}
use Rattle.device.specs.Medium.{Medium}
use Rattle.device.specs.Calls.{Reads}
use Rattle.device.specs.History.{Event, did_read, did_write, did_sync, power_returned, Step, History, Leads}
use Rattle.device.specs.declared.Reader.{Ghosts}
use Rattle.device.specs.declared.fault.DeviceFault.{DeviceFault}

-- the step is a read, as the rules allow it
abbrev pub IsRead : Step → Type 0
IsRead s =
    (p : ℕ) × (b : List ℕ) × (a : Result Unit DeviceFault) × (s.event ≡ did_read p b a) × Reads s.before p b a s.after

-- Whichever history led to the medium m, reads lead from it to the medium n, and F holds of them. P are the
-- histories that may have been the device's before them, and Q those that may be its own after them.
pub record Looks (P : History → Type 0) (m : Medium) (Q : History → Type 0) (n : Medium) (F : History → Type 0) : Type 0 where
  pub follows : (h : History) → P h → (t : History) × Q (t ++ h) × Leads m t n × AllByRecursion IsRead t × F t

-- What F says of a reader that was d and is e: by its past and its medium, then and now.
abbrev pub On : {R : Type 0} → Ghosts R → R → R → ((P : History → Type 0) (m : Medium) (Q : History → Type 0) (n : Medium) → Type 0) → Type 0
On r d e F = F (r.past d) (r.medium d) (r.past e) (r.medium e)

-- reads of it, where F holds of both media and of the reads
abbrev pub LooksOn : {R : Type 0} → Ghosts R → R → R → (Medium → Medium → History → Type 0) → Type 0
LooksOn r d e F = Looks (r.past d) (r.medium d) (r.past e) (r.medium e) (F (r.medium d) (r.medium e))

-- the pages that were read, the last first
abbrev pub read_in : Event → List ℕ
read_in (did_read p b a) = p ∷ []
read_in (did_write p b a) = []
read_in (did_sync a) = []
read_in power_returned = []

abbrev pub pages_read : History → List ℕ
pages_read [] = []
pages_read (s ∷ h) = read_in s.event ++ pages_read h
