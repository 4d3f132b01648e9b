-- What a run of a client's calls comes to.
use Rattle.std.specs.Prelude.{◌≡◌, List, [], ◌∷◌, map, Some, Result}
use Rattle.device.specs.Medium.{Medium}
use Rattle.device.specs.History.{History}
use Rattle.faults.specs.declared.fault.StoreFault.{StoreFault}
use Rattle.store.specs.Snapshots.{snap}
use Rattle.store.specs.declared.client.Answer.{Answer}
use Rattle.store.specs.declared.store.Store.{Store}
use Rattle.recovery.specs.Promise.{Keeps}
use Rattle.recovery.specs.declared.running.Entry.{Entry}

-- the script with these answers put in, each beside its call
abbrev pub with_answers : List Entry → List (Result Answer StoreFault) → List Entry
with_answers es [] = es
with_answers [] (b ∷ bs) = []
with_answers (e ∷ es) (b ∷ bs) = record { call = e.call; answer = Some b } ∷ with_answers es bs

-- A run over a device that was d, where past and medium say what a device means: the script has got answers that keep the
-- promise, and z is the store after it. P are the histories that may have led to d.
abbrev pub RunsTo : {D : Type 0} → (past : D → History → Type 0) → (medium : D → Medium) → (asked : Medium → History → Type 0) → (P : History → Type 0) → D → (before after : List Entry) → Store D → Type 0
RunsTo past medium asked P d before after z =
    (bs : List (Result Answer StoreFault)) × (after ≡ with_answers before bs)
    × Keeps asked P (medium d) (past z.device) (snap (medium z.device) z.state z.held) (map (λ e. e.call) before) bs
