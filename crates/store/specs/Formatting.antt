-- A device as it is formatted.
use Rattle.std.specs.Prelude.{◌≡◌, ℕ, true, false, List, [], ◌∷◌, OnOk, None, Ok, Err, Result}
use Rattle.device.specs.Medium.{Medium, Durable, zeros}
use Rattle.device.specs.History.{Event, did_write, did_sync, History}
use Rattle.device.specs.declared.fault.DeviceFault.{DeviceFault}
use Rattle.device.specs.declared.fault.DeviceFault.TheVariants.{Off}
use Rattle.page.specs.Kinds.{leaf_rules}
use Rattle.page.specs.Reading.{first_fault}
use Rattle.page.specs.Views.{pairs_in}
use Rattle.meta.specs.Layout.{meta_page}
use Rattle.meta.specs.declared.Meta.{Meta}
use Rattle.faults.specs.Faults.{from_device}
use Rattle.faults.specs.declared.fault.StoreFault.{StoreFault}
use Rattle.walk.specs.Checking.{fits_pages}
use Rattle.store.specs.Acting.{events_of, GoesBy, CallsIf}
use Rattle.store.specs.Calls.{ObeysIfSound}
use Rattle.store.specs.Model.{formats}
use Rattle.store.specs.Snapshots.{Snapshot}
use Rattle.store.specs.States.{can_restart}

-- the meta of commit 0, on a device with so many pages: an empty leaf on page 2 is the tree
abbrev pub first_meta : ℕ → Meta
first_meta size = record { pages = size; root = 2; commit = 0; pairs = 0; levels = 1 }

-- commit 0 is durable, page 1 is blank, and the tree is empty
pub record Fresh (m : Medium) : Type 0 where
  pub on : m.on ≡ true
  pub durable : Durable m
  pub room : fits_pages m.size ≡ true
  pub first : m.bytes 0 ≡ meta_page (first_meta m.size)
  pub second : m.bytes 1 ≡ zeros
  pub leaf : first_fault leaf_rules (m.bytes 2) ≡ None
  pub empty : pairs_in (m.bytes 2) ≡ []

-- The calls of a format, newest first, on a device with so many pages: blank meta pages and a leaf, and when these are
-- durable, the meta page of commit 0.
abbrev pub plan : (size : ℕ) (leaf : List ℕ) → List (Result Unit DeviceFault → Event)
plan size leaf =
    did_sync ∷ did_write 0 (meta_page (first_meta size)) ∷ did_sync ∷ did_write 2 leaf ∷ did_write 1 zeros ∷ did_write 0 zeros ∷ []

-- they went by this plan, where the leaf is an empty one, and answered a
abbrev pub WritesOut : (size : ℕ) → History → (a : Result Unit DeviceFault) → Type 0
WritesOut size t a = (leaf : List ℕ) × (first_fault leaf_rules leaf ≡ None) × (pairs_in leaf ≡ []) × GoesBy (plan size leaf) a (events_of t)

-- what a device is after it was laid out, if it has room
abbrev pub LaidOut : Medium → Medium → Result Unit DeviceFault → Type 0
LaidOut m n (Ok u) = fits_pages m.size ≡ true → Fresh n
LaidOut m n (Err f) = fits_pages m.size ≡ true → (f ≡ Off) × (n.on ≡ false)

-- laying it out, by the calls t
abbrev pub LaysOut : Medium → Medium → History → Result Unit DeviceFault → Type 0
LaysOut m n t a = WritesOut m.size t a × LaidOut m n a

-- the answer of a store to a format that got to the device
abbrev pub WritesOutFor : (size : ℕ) → History → Result Unit StoreFault → Type 0
WritesOutFor size t (Ok u) = WritesOut size t (Ok tt)
WritesOutFor size t (Err f) = (d : DeviceFault) × (f ≡ from_device d) × WritesOut size t (Err d)

-- a format of the store's device, by the calls t
abbrev pub FormatsTo : Snapshot → Snapshot → History → Result Unit StoreFault → Type 0
FormatsTo s z t a =
    CallsIf (can_restart s.state s.medium.size) t (WritesOutFor s.medium.size t a)
    × OnOk a (Fresh z.medium)
    × ObeysIfSound s z (formats z.medium.on (fits_pages s.medium.size)) a
