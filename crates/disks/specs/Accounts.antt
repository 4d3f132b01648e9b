-- What the calls of a simulated disk have made true.
use Rattle.std.specs.Prelude.{◌≡◌, ℕ, Bool, true, false, List, [], ◌∷◌}
use Rattle.device.specs.Medium.{Medium, Durable}
use Rattle.device.specs.History.{Event, did_read, did_write, did_sync, power_returned, History, Leads, last_durable}

-- no call of the history found a volatile page
abbrev pub NeverVolatile : History → Type 0
NeverVolatile [] = Unit {0}
NeverVolatile (s ∷ h) = NeverVolatile h × Durable s.before

-- what a power return shows of each page is what the page held when it was last durable
abbrev pub ShowsDurable : Medium → History → Event → Medium → Type 0
ShowsDurable base h (did_read q b r) n = Unit {0}
ShowsDurable base h (did_write q b r) n = Unit {0}
ShowsDurable base h (did_sync r) n = Unit {0}
ShowsDurable base h power_returned n = (p : ℕ) → n.bytes p ≡ last_durable base h p

-- each power return of the history shows that
abbrev pub Faithful : Medium → History → Type 0
Faithful base [] = Unit {0}
Faithful base (s ∷ h) = Faithful base h × ShowsDurable base h s.event s.after

-- whatever durable medium the history led from, its power returns were faithful, and `durable` has the bytes
-- that each page had when it was last durable
abbrev pub Remembers : (ℕ → List ℕ) → Medium → History → Type 0
Remembers durable m h =
    (base : Medium) → Durable base → Leads base h m
    → Faithful base h × ((p : ℕ) → durable p ≡ last_durable base h p)

-- the histories that may have led to a disk, by whether its writes are durable at once
abbrev pub Accounts : Bool → (ℕ → List ℕ) → Medium → History → Type 0
Accounts true durable m h = NeverVolatile h
Accounts false durable m h = Remembers durable m h
