-- The calls of a client, and what each of them did.
use Rattle.std.specs.Prelude.{◌≡◌, ℕ, Bool, List, [], ◌∷◌, Ok, Err, vec_items, Option, Result}
use Rattle.std.specs.List.{AllByRecursion}
use Rattle.device.specs.Calls.{Returns}
use Rattle.device.specs.History.{History, step, power_returned}
use Rattle.device.specs.Looking.{IsRead}
use Rattle.cuts.specs.Nodes.{Pair}
use Rattle.tree.specs.Maps.{first_above}
use Rattle.faults.specs.declared.fault.StoreFault.{StoreFault}
use Rattle.search.specs.Finding.{pair_with}
use Rattle.store.specs.Acting.{CallsIf}
use Rattle.store.specs.Calls.{ObeysIfSound, Commits}
use Rattle.store.specs.Formatting.{FormatsTo}
use Rattle.store.specs.Model.{Model, Stepped, begins, aborts}
use Rattle.store.specs.Opening.{Opens}
use Rattle.store.specs.Reading.{is_key, is_short, HandsIfSound}
use Rattle.store.specs.Snapshots.{Snapshot}
use Rattle.store.specs.States.{can_read}
use Rattle.store.specs.Versions.{Forgotten}
use Rattle.store.specs.declared.client.Answer.{Answer}
use Rattle.store.specs.declared.client.Answer.TheVariants.{Number, Cell, Done}
use Rattle.store.specs.declared.client.Call.{Call}
use Rattle.store.specs.declared.client.Call.TheVariants.{Format, Open, Begin, Get, After, Abort, Commit, PowerReturn}
use Rattle.store.specs.declared.state.State.TheVariants.{Shut}

-- a result as the client's, where f makes an answer of what was accepted
abbrev pub answered : {A : Type 0} → (A → Answer) → Result A StoreFault → Result Answer StoreFault
answered f (Ok c) = Ok (f c)
answered f (Err e) = Err e

-- a call that takes one step of the model, and calls no device
abbrev pub Steps : (Model → Stepped Unit) → Snapshot → Snapshot → Result Answer StoreFault → History → Type 0
Steps model s z a t = (r : Result Unit StoreFault) × (a ≡ answered (λ _. Done) r) × (t ≡ []) × (z.medium ≡ s.medium) × ObeysIfSound s z model r

-- a call that reads the map, where `fits` says whether the key's length does
abbrev pub ReadsMap : (fits : Bool) → (List Pair → Option Pair) → Snapshot → Snapshot → Result Answer StoreFault → History → Type 0
ReadsMap fits want s z a t = (r : Result ℕ StoreFault) × (buffer : List ℕ) × (a ≡ answered Cell r)
    × CallsIf (can_read s.state fits) t (AllByRecursion IsRead t) × HandsIfSound s z fits want r buffer

-- One call of a client on the store s, by the calls t of the device. The store is then z, and has answered a.
abbrev pub Does : Call → Snapshot → Snapshot → Result Answer StoreFault → History → Type 0
Does Format s z a t = (r : Result Unit StoreFault) × (a ≡ answered (λ _. Done) r) × FormatsTo s z t r
Does Open s z a t = (r : Result ℕ StoreFault) × (a ≡ answered Number r) × Opens s z t r
Does Begin s z a t = Steps begins s z a t
Does Abort s z a t = Steps aborts s z a t
Does (Get k) s z a t = ReadsMap (is_key (vec_items k)) (pair_with (vec_items k)) s z a t
Does (After k) s z a t = ReadsMap (is_short (vec_items k)) (first_above (vec_items k)) s z a t
Does Commit s z a t = (r : Result ℕ StoreFault) × (a ≡ answered Number r) × Commits s z t r
Does PowerReturn s z a t = (a ≡ Ok Done) × (z.state ≡ Shut) × Forgotten z.held × Returns s.medium z.medium × (t ≡ step s.medium power_returned z.medium ∷ [])
