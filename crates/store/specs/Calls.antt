-- What each call of a store promises.
use Rattle.std.specs.Prelude.{◌≡◌, ℕ, [], Ok, Err, Result}
use Rattle.device.specs.Medium.{Medium}
use Rattle.device.specs.History.{History}
use Rattle.device.specs.declared.fault.DeviceFault.{DeviceFault}
use Rattle.meta.specs.declared.Meta.{Meta}
use Rattle.faults.specs.Faults.{from_device}
use Rattle.faults.specs.declared.fault.StoreFault.{StoreFault}
use Rattle.store.specs.Model.{Model, Stepped, commits}
use Rattle.store.specs.Sealing.{Seals}
use Rattle.store.specs.Snapshots.{Snapshot, IsSound, model_at}
use Rattle.store.specs.declared.state.State.{State}
use Rattle.store.specs.declared.state.State.TheVariants.{Shut, Idle, InTransaction}
use Rattle.store.specs.declared.ticket.Ticket.{Ticket}

-- The store answers as the model does, becomes what the model becomes, and is sound then. It was s, and is z.
pub record Obeys {A : Type 0} (s z : Snapshot) (step : Model → Stepped A) (a : Result A StoreFault) : Type 0 where
  pub answers : a ≡ (step (model_at s)).answer
  pub becomes : model_at z ≡ (step (model_at s)).model
  pub sound : IsSound z

abbrev pub ObeysIfSound : {A : Type 0} → Snapshot → Snapshot → (Model → Stepped A) → Result A StoreFault → Type 0
ObeysIfSound s z step a = IsSound s → Obeys s z step a

-- an answer without the ticket in it
abbrev pub granted : Result Ticket StoreFault → Result Unit StoreFault
granted (Ok t) = Ok tt
granted (Err f) = Err f

-- the calls t that made the version w durable, or were cut off by a refusal, with the store's answer
abbrev pub SealedBy : Meta → Medium → Medium → History → Result ℕ StoreFault → Type 0
SealedBy w m n t (Ok c) = Seals w m n t (Ok tt)
SealedBy w m n t (Err f) = (d : DeviceFault) × (f ≡ from_device d) × Seals w m n t (Err d)

-- the calls t by which a commit led from m to n: none if it is refused for the state, and else those that seal the working
-- version
abbrev pub CommitCalls : State → Medium → Medium → History → Result ℕ StoreFault → Type 0
CommitCalls Shut m n t a = (t ≡ []) × (n ≡ m)
CommitCalls (Idle x) m n t a = (t ≡ []) × (n ≡ m)
CommitCalls (InTransaction x) m n t a = SealedBy x.working m n t a

-- a commit, by the calls t
abbrev pub Commits : Snapshot → Snapshot → History → Result ℕ StoreFault → Type 0
Commits s z t a = CommitCalls s.state s.medium z.medium t a × ObeysIfSound s z (commits z.medium.on) a
