-- The medium that a cache is. In these, f gives the copy that the cache has of each page, m is the medium of the
-- device below, and `off` is what the cache knows of the device's power.
use Rattle.std.specs.Prelude.{◌≡◌, ℕ, ◌<◌, Bool, true, false, ◌||◌, List, is_some, Option}
use Rattle.device.specs.Medium.{Medium}
use Rattle.device.specs.History.{History, Event, HappensOn}
use Rattle.device.specs.declared.Reader.{Ghosts}
use Rattle.cache.specs.declared.copy.Copied.{Copied}
use Rattle.cache.specs.declared.cache.Cache.{Cache}
use Rattle.cache.specs.Held.{is_changed, pages_in, copy_of, shown}

-- a page has the bytes of its copy, and is volatile if the copy was changed, or if it is volatile below
abbrev pub over : (ℕ → Option Copied) → Medium → Medium
over f m =
    record { size = m.size; bytes = λ p. shown (f p) (m.bytes p); volatile = λ p. is_changed (f p) || m.volatile p; on = m.on }

-- What the calls that led here have made true: a copy that was not changed is the page below, each copy is of a
-- page of the device, and the cache knows whether the device is off. A device with no pages does not tell that
-- to a read: the cache may take it to be on, and learns better at a sync.
pub record Agrees (f : ℕ → Option Copied) (off : Bool) (m : Medium) : Type 0 where
  pub same : (p : ℕ) → is_some (f p) ≡ true → is_changed (f p) ≡ false → shown (f p) (m.bytes p) ≡ m.bytes p
  pub within : (p : ℕ) → is_some (f p) ≡ true → p < m.size
  pub knows_off : off ≡ true → m.on ≡ false
  pub knows_on : off ≡ false → 0 < m.size → m.on ≡ true

-- A cache over a device of type B, whose medium and past are those of R.
abbrev pub pages_of : {B : Type 0} → Cache B → List (Option Copied)
pages_of c = pages_in c.slots.all

abbrev pub copies_of : {B : Type 0} → Cache B → ℕ → Option Copied
copies_of c = copy_of (pages_of c)

abbrev pub cache_medium : {B : Type 0} → Ghosts B → Cache B → Medium
cache_medium R c = over (copies_of c) (R.medium c.below)

-- some history led to the device below, and the cache agrees with it
pub record Stands {B : Type 0} (R : Ghosts B) (c : Cache B) : Type 0 where
  pub led : History
  pub is_past : R.past c.below led
  pub agrees : Agrees (copies_of c) c.off (R.medium c.below)

-- Any history may have led to a cache that stands.
abbrev pub cache_past : {B : Type 0} → Ghosts B → Cache B → History → Type 0
cache_past R c h = Stands R c

-- the event e on a cache that is c before it, and d after it
abbrev pub HappensTo : {B : Type 0} → Ghosts B → Cache B → Event → Cache B → Type 0
HappensTo R c e d = HappensOn (cache_past R) (cache_medium R) c e d
