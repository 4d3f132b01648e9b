-- The promise on power loss, over whole runs of calls.
use Rattle.std.specs.Prelude.{◌≡◌, ℕ, ◌+◌, ◌-◌, ◌≤◌, Bool, true, false, cond, ◌⊎◌, List, [], ◌∷◌, ◌++◌, is_some, is_ok, vec_items, Some, None, Ok, Err, Option, Result}
use Rattle.std.specs.List.{AllByRecursion}
use Rattle.device.specs.Medium.{Medium}
use Rattle.device.specs.History.{History, Leads}
use Rattle.cuts.specs.Nodes.{Pair}
use Rattle.tree.specs.Maps.{Rising, first_above}
use Rattle.faults.specs.declared.fault.StoreFault.{StoreFault}
use Rattle.faults.specs.declared.fault.StoreFault.TheVariants.{Absent}
use Rattle.paged.specs.Paged.{pairs_on}
use Rattle.search.specs.Finding.{pair_with}
use Rattle.walk.specs.Checking.{Holding, found_on}
use Rattle.store.specs.Acting.{IsAllowed}
use Rattle.store.specs.Client.{Does}
use Rattle.store.specs.Model.{Model, shut, idle, active, off}
use Rattle.store.specs.Snapshots.{Snapshot, model_at}
use Rattle.store.specs.Versions.{Forgotten}
use Rattle.store.specs.declared.client.Answer.{Answer}
use Rattle.store.specs.declared.client.Answer.TheVariants.{Number}
use Rattle.store.specs.declared.client.Call.{Call}
use Rattle.store.specs.declared.client.Call.TheVariants.{Format, Open, Begin, Get, After, Abort, Commit, PowerReturn}
use Rattle.store.specs.declared.state.State.TheVariants.{Shut}
use Rattle.recovery.specs.Record.{Record, working_or, opened_by, recorded}

-- what an opening found on the medium: commit c, with exactly these pairs, in rising order, in a tree whose leaves lie
-- equally deep (as those of every PagedTree do) and which has at most seven levels
pub record Finds (n : Medium) (c : ℕ) (ps : List Pair) : Type 0 where
  pub held : Holding
  pub walked : found_on n.bytes n.size true ≡ Ok held
  pub number : held.meta.commit ≡ c
  pub pairs : pairs_on (held.meta.levels - 1) held.tree ≡ ps
  pub rising : Rising ps
  pub low : held.meta.levels ≤ 7

-- An opening is accepted. It answers the number of the record, or the next one, and that only if a commit was interrupted;
-- and it finds the map that the record then has as committed.
abbrev pub OpensWell : Record → Result Answer StoreFault → Medium → Type 0
OpensWell k a n = (c : ℕ)
    × (a ≡ Ok (Number c))
    × ((c ≡ k.number) ⊎ ((c ≡ k.number + 1) × (is_some k.in_doubt ≡ true)))
    × Finds n c (opened_by k a).committed

-- an opening goes well, unless its device is off, and then it says so
abbrev pub OpensOrIsOff : Record → Result Answer StoreFault → Medium → Type 0
OpensOrIsOff k a n = (n.on ≡ true → OpensWell k a n) × (n.on ≡ false → a ≡ Err off)

-- P, unless there is such a thing
abbrev pub Unless : {X : Type 0} → Option X → Type 0 → Type 0
Unless None P = P
Unless (Some x) P = Unit {0}

-- the map that a read is of: in a transaction the working one, else the committed one
abbrev pub map_read : Record → List Pair
map_read k = working_or k.working k.committed

-- a read finds what is wanted exactly if the map has it, unless it is refused for something else
abbrev pub ReadsWell : List Pair → (List Pair → Option Pair) → Result Answer StoreFault → Type 0
ReadsWell map want (Ok a) = is_some (want map) ≡ true
ReadsWell map want (Err f) = f ≡ Absent → want map ≡ None

-- an accepted commit answers the next number
abbrev pub CommitsWell : Record → Result Answer StoreFault → Type 0
CommitsWell k (Ok a) = a ≡ Number (k.number + 1)
CommitsWell k (Err f) = Unit {0}

-- What is promised of a call that answered a, where k was the record before it, and n the medium after it.
abbrev pub Claim : Option Record → Call → Result Answer StoreFault → Medium → Type 0
Claim None c a n = Unit {0}
Claim (Some k) Format a n = Unit {0}
Claim (Some k) Open a n = Unless k.working (OpensOrIsOff k a n)
Claim (Some k) Begin a n = Unit {0}
Claim (Some k) (Get key) a n = ReadsWell (map_read k) (pair_with (vec_items key)) a
Claim (Some k) (After key) a n = ReadsWell (map_read k) (first_above (vec_items key)) a
Claim (Some k) Abort a n = Unit {0}
Claim (Some k) Commit a n = CommitsWell k a
Claim (Some k) PowerReturn a n = Unit {0}

-- the device's calls in one call of the client, and the store after them
pub record Segment : Type 0 where
  pub calls : History
  pub after : Snapshot

-- the device's calls since the last accepted format, and the medium that this left
pub record Since : Type 0 where
  pub base : Medium
  pub calls : History

abbrev pub since : Medium → History → Since
since b h = record { base = b; calls = h }

abbrev pub is_formatted : Call → Result Answer StoreFault → Bool
is_formatted Format a = is_ok a
is_formatted Open a = false
is_formatted Begin a = false
is_formatted (Get key) a = false
is_formatted (After key) a = false
is_formatted Abort a = false
is_formatted Commit a = false
is_formatted PowerReturn a = false

abbrev pub on_by : Call → Result Answer StoreFault → Segment → Since → Since
on_by c a s w = cond (is_formatted c a) (since s.after.medium []) (since w.base (s.calls ++ w.calls))

-- The store's model is what the record has: it is in a transaction exactly if there is a working map, and unless it is shut,
-- its number and its maps are the record's.
abbrev pub Agrees : Record → Model → Type 0
Agrees k shut = k.working ≡ None
Agrees k (idle c m) = (k.working ≡ None) × (k.in_doubt ≡ None) × (c ≡ k.number) × (m ≡ k.committed)
Agrees k (active c m w) = (k.working ≡ Some w) × (k.in_doubt ≡ None) × (c ≡ k.number) × (m ≡ k.committed)

abbrev pub AgreesIfKnown : Option Record → Model → Type 0
AgreesIfKnown None s = Unit {0}
AgreesIfKnown (Some k) s = Agrees k s

-- Of each call in turn: where what is asked of the device's calls since the last format, up to its end, holds of them, it
-- answered as promised, and the store after it is what the record has then. The calls w came before these, and k was the
-- record then.
abbrev pub Claims : (asked : Medium → History → Type 0) → (w : Since) → Option Record → List Call → List (Result Answer StoreFault) → List Segment → Type 0
Claims asked w k [] [] [] = Unit {0}
Claims asked w k [] [] (s ∷ ss) = ⊥
Claims asked w k [] (a ∷ bs) ss = ⊥
Claims asked w k (c ∷ cs) [] ss = ⊥
Claims asked w k (c ∷ cs) (a ∷ bs) [] = ⊥
Claims asked w k (c ∷ cs) (a ∷ bs) (s ∷ ss) =
    let v = on_by c a s w in
    (asked w.base (s.calls ++ w.calls) → Claim k c a s.after.medium)
    × (asked v.base v.calls → AgreesIfKnown (recorded k c a) (model_at s.after))
    × Claims asked v (recorded k c a) cs bs ss

-- the calls one after another: each did what the store promises of it and answered so, by the device's calls of its segment,
-- which are such as the rules of a device allow; the store was s, and is z
abbrev pub Passes : Snapshot → List Call → List (Result Answer StoreFault) → List Segment → Snapshot → Type 0
Passes s [] [] [] z = z ≡ s
Passes s [] [] (g ∷ gs) z = ⊥
Passes s [] (a ∷ bs) gs z = ⊥
Passes s (c ∷ cs) [] gs z = ⊥
Passes s (c ∷ cs) (a ∷ bs) [] z = ⊥
Passes s (c ∷ cs) (a ∷ bs) (g ∷ gs) z =
    Does c s g.after a g.calls × Leads s.medium g.calls g.after.medium × AllByRecursion IsAllowed g.calls × Passes g.after cs bs gs z

-- the device's calls in all of them, newest first
abbrev pub calls_of : List Segment → History
calls_of [] = []
calls_of (s ∷ ss) = calls_of ss ++ s.calls

-- a new store over the medium m
pub record New (m : Medium) (s : Snapshot) : Type 0 where
  pub medium : s.medium ≡ m
  pub shut : s.state ≡ Shut
  pub forgotten : Forgotten s.held

-- Whichever history led to the device, the calls of each call of the script lead on from there, from a new store up to the
-- store z, and each answer is as promised, if what is asked of the device's calls holds of those up to it. Before the script
-- nothing is known.
abbrev pub Keeps : (asked : Medium → History → Type 0) → (P : History → Type 0) → Medium → (Q : History → Type 0) → (z : Snapshot) → List Call → List (Result Answer StoreFault) → Type 0
Keeps asked P m Q z script answers = (h : History) → P h
    → (s : Snapshot) × (gs : List Segment)
    × Q (calls_of gs ++ h) × New m s × Passes s script answers gs z × Claims asked (since m []) None script answers gs
