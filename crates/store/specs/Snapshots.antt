-- A store at one moment, as its contracts speak of it.
use Rattle.device.specs.Medium.{Medium}
use Rattle.device.specs.History.{History}
use Rattle.device.specs.declared.Reader.{Ghosts}
use Rattle.store.specs.Acting.{Acts}
use Rattle.store.specs.Model.{Model}
use Rattle.store.specs.Versions.{Sound, model_of}
use Rattle.store.specs.declared.state.State.{State}
use Rattle.store.specs.declared.state.Held.{Held}
use Rattle.store.specs.declared.store.Store.{Store}

-- the medium of its device, its state, and its marks
pub record Snapshot : Type 0 where
  pub medium : Medium
  pub state : State
  pub held : Held

abbrev pub snap : Medium → State → Held → Snapshot
snap m s b = record { medium = m; state = s; held = b }

-- of a store over a device that means what r says
abbrev pub snapshot : {D : Type 0} → Ghosts D → Store D → Snapshot
snapshot r s = snap (r.medium s.device) s.state s.held

-- its state says what is on its device
abbrev pub IsSound : Snapshot → Type 0
IsSound s = Sound s.medium s.state s.held

-- the model that it is
abbrev pub model_at : Snapshot → Model
model_at s = model_of s.medium.bytes s.state

-- from a store to what it becomes, by calls of its device: F holds of its snapshots before and after, and of the calls
abbrev pub StoreActs : {D : Type 0} → Ghosts D → Store D → Store D → (Snapshot → Snapshot → History → Type 0) → Type 0
StoreActs r s z F = Acts (r.past s.device) (r.medium s.device) (r.past z.device) (r.medium z.device) (F (snapshot r s) (snapshot r z))
