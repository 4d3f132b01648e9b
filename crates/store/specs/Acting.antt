-- Stretches of calls of a device.
use Rattle.std.specs.Prelude.{◌≡◌, Bool, true, false, ◌⊎◌, List, [], ◌∷◌, ◌++◌, map, Ok, Err, Result}
use Rattle.std.specs.List.{AllByRecursion}
use Rattle.device.specs.Medium.{Medium}
use Rattle.device.specs.History.{Event, Step, History, Leads, Allowed}
use Rattle.device.specs.declared.Reader.{Ghosts}
use Rattle.device.specs.declared.fault.DeviceFault.{DeviceFault}

-- the step is one that the rules of a device allow
abbrev pub IsAllowed : Step → Type 0
IsAllowed s = Allowed s.before s.event s.after

-- Whichever history led to the medium m, calls lead from it to the medium n, and F holds of them. P are the histories
-- that may have been the device's before them, and Q those that may be its own after them.
pub record Acts (P : History → Type 0) (m : Medium) (Q : History → Type 0) (n : Medium) (F : History → Type 0) : Type 0 where
  pub follows : (h : History) → P h → (t : History) × Q (t ++ h) × Leads m t n × AllByRecursion IsAllowed t × F t

-- from one value of a device to another, which mean what r says: F holds of the media, too
abbrev pub ActsOn : {D : Type 0} → Ghosts D → D → D → (Medium → Medium → History → Type 0) → Type 0
ActsOn r d e F = Acts (r.past d) (r.medium d) (r.past e) (r.medium e) (F (r.medium d) (r.medium e))

-- the calls, newest first
abbrev pub events_of : History → List Event
events_of t = map (λ s. s.event) t

-- The events of calls, newest first, that went by a plan and answered a: all of its calls, each accepted, or those up to the
-- one that was refused. The plan is newest first, too, and has the event of each call by its answer.
abbrev pub GoesBy : List (Result Unit DeviceFault → Event) → (a : Result Unit DeviceFault) → List Event → Type 0
GoesBy plan (Ok u) es = es ≡ map (λ c. c (Ok tt)) plan
GoesBy [] (Err f) es = ⊥
GoesBy (c ∷ plan) (Err f) es = (es ≡ c (Err f) ∷ map (λ d. d (Ok tt)) plan) ⊎ GoesBy plan (Err f) es

-- the calls t of a call that gets to its device, or that is refused before, and then makes none
abbrev pub CallsIf : (gets_there : Bool) → (t : History) → Type 0 → Type 0
CallsIf true t F = F
CallsIf false t F = t ≡ []
