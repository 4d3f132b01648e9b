-- What an opening finds.
use Rattle.std.specs.Prelude.{◌≡◌, ℕ, ◌-◌, Bool, List, [], ◌∷◌, ◌++◌, OnErr, Ok, Err, Result}
use Rattle.std.specs.List.{AllByRecursion}
use Rattle.device.specs.Medium.{Medium}
use Rattle.device.specs.Calls.{Syncs}
use Rattle.device.specs.History.{History, step, did_sync}
use Rattle.device.specs.Looking.{IsRead}
use Rattle.device.specs.declared.fault.DeviceFault.{DeviceFault}
use Rattle.cuts.specs.Nodes.{Pair}
use Rattle.faults.specs.declared.fault.StoreFault.{StoreFault}
use Rattle.paged.specs.Paged.{PagedTree, pairs_on}
use Rattle.walk.specs.Checking.{Holding, found_on}
use Rattle.walk.specs.declared.inspection.Recovered.{Recovered}
use Rattle.store.specs.Acting.{CallsIf}
use Rattle.store.specs.Calls.{Obeys}
use Rattle.store.specs.Model.{opens}
use Rattle.store.specs.Snapshots.{Snapshot}
use Rattle.store.specs.States.{can_restart}
use Rattle.store.specs.Versions.{tree_of, Sound, Committed}
use Rattle.store.specs.declared.state.State.{State}
use Rattle.store.specs.declared.state.State.TheVariants.{Shut, Idle, InTransaction}
use Rattle.store.specs.declared.state.Held.{Held}

-- a sync of the medium m, and if that was accepted, reads
abbrev pub SyncsAndReads : Medium → History → Type 0
SyncsAndReads m t = (n : Medium) × (a : Result Unit DeviceFault) × (u : History)
    × (t ≡ u ++ step m (did_sync a) n ∷ []) × Syncs m a n × AllByRecursion IsRead u × OnErr a (u ≡ [])

-- the number and the map that a device holds, or why none is found; `on` says whether it is on at the end
abbrev pub map_in : Result Holding StoreFault → Result (ℕ × List Pair) StoreFault
map_in (Ok h) = Ok (h.meta.commit, pairs_on (h.meta.levels - 1) h.tree)
map_in (Err f) = Err f

abbrev pub map_on : Medium → (on : Bool) → Result (ℕ × List Pair) StoreFault
map_on m on = map_in (found_on m.bytes m.size on)

-- what an opening asks of a store: only one in a transaction has to be sound, since it is refused and stays as it is
abbrev pub Ready : Medium → State → Held → Type 0
Ready m Shut b = Unit {0}
Ready m (Idle x) b = Unit {0}
Ready m (InTransaction x) b = Sound m (InTransaction x) b

-- an opening, by the calls t
abbrev pub Opens : Snapshot → Snapshot → History → Result ℕ StoreFault → Type 0
Opens s z t a = CallsIf (can_restart s.state s.medium.size) t (SyncsAndReads s.medium t) × (Ready s.medium s.state s.held → Obeys s z (opens (map_on s.medium z.medium.on)) a)

-- what reading the device anew answers
abbrev pub Reopens : Medium → Medium → Result Recovered StoreFault → Type 0
Reopens m n (Err f) = found_on m.bytes m.size n.on ≡ Err f
Reopens m n (Ok r) =
    (tree : PagedTree (r.meta.levels - 1))
    × (found_on m.bytes m.size n.on ≡ Ok (record { meta = r.meta; tree = tree }))
    × Committed n r.meta r.marks.marked
    × (tree_of n.bytes r.meta ≡ tree)
