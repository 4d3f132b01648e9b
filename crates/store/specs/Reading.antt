-- What a read of the map hands out.
use Rattle.std.specs.Prelude.{◌≡◌, ℕ, ◌<◌, Bool, ◌&&◌, List, length, Some, None, Ok, Err, Option, Result, nat_le}
use Rattle.std.specs.List.{AllByRecursion, ContainsAt}
use Rattle.std.specs.Result.{result_ok}
use denote.Ref.{MutBor}
use Rattle.device.specs.Medium.{zeros}
use Rattle.device.specs.Looking.{IsRead, On, LooksOn}
use Rattle.device.specs.declared.Reader.{Ghosts}
use Rattle.device.specs.declared.fault.DeviceFault.TheVariants.{Outside, Off}
use Rattle.cuts.specs.Nodes.{Pair}
use Rattle.page.specs.Kinds.{leaf_rules}
use Rattle.page.specs.Reading.{first_fault}
use Rattle.page.specs.Views.{pairs_in}
use Rattle.page.specs.declared.fault.PageFault.{PageFault}
use Rattle.page.specs.declared.fault.PageFault.TheVariants.{Device, Damaged}
use Rattle.meta.specs.declared.Meta.{Meta}
use Rattle.faults.specs.declared.fault.StoreFault.{StoreFault}
use Rattle.search.specs.Finding.{pair_at, leaf_pages, Searches}
use Rattle.search.specs.declared.Place.{Place}
use Rattle.search.specs.declared.Tree.{Tree}
use Rattle.store.specs.Acting.{CallsIf}
use Rattle.store.specs.Model.{Model, Stepped, reads}
use Rattle.store.specs.Snapshots.{Snapshot, snapshot, IsSound, model_at}
use Rattle.store.specs.States.{version_in, can_read}
use Rattle.store.specs.Versions.{height_of, tree_of}
use Rattle.store.specs.declared.state.State.{State}
use Rattle.store.specs.declared.state.State.TheVariants.{Shut}
use Rattle.store.specs.declared.store.Store.{Store}

-- the version that is read: the working one in a transaction, else the committed one
abbrev pub version_of : State → Option Meta
version_of s = result_ok (version_in s)

-- a key of 1 to 64 bytes; a key of at most 64 bytes
abbrev pub is_key : List ℕ → Bool
is_key k = nat_le 1 (length k) && nat_le (length k) 64

abbrev pub is_short : List ℕ → Bool
is_short k = nat_le (length k) 64

-- The buffer holds a leaf page of the tree of the version v, as it stands on the device whose bytes m gives, and the pair
-- in the cell is p.
pub record InLeafOf (m : ℕ → List ℕ) (v : Option Meta) (p : Pair) (buffer : List ℕ) (cell : ℕ) : Type 0 where
  pub meta : Meta
  pub is_version : v ≡ Some meta
  pub page : ℕ
  pub of_tree : ContainsAt (leaf_pages (height_of meta) (tree_of m meta)) page
  pub bytes_are : buffer ≡ m page
  pub is_leaf : first_fault leaf_rules buffer ≡ None
  pub within : cell < length (pairs_in buffer)
  pub pair_is : pair_at (pairs_in buffer) cell ≡ p

-- what the answer and the buffer are, by the model's answer
abbrev pub HandsOut : (m : ℕ → List ℕ) → Option Meta → Result Pair StoreFault → Result ℕ StoreFault → List ℕ → Type 0
HandsOut m v (Err f) a buffer = (a ≡ Err f) × (buffer ≡ zeros)
HandsOut m v (Ok p) a buffer = (cell : ℕ) × (a ≡ Ok cell) × InLeafOf m v p buffer cell

-- the store hands out what the model finds, becomes what the model becomes, and is sound then
pub record Hands (s z : Snapshot) (step : Model → Stepped Pair) (a : Result ℕ StoreFault) (buffer : List ℕ) : Type 0 where
  pub hands : HandsOut s.medium.bytes (version_of s.state) (step (model_at s)).answer a buffer
  pub becomes : model_at z ≡ (step (model_at s)).model
  pub sound : IsSound z

-- what a read promises, where `fits` says whether the key's length does
abbrev pub HandsIfSound : Snapshot → Snapshot → (fits : Bool) → (List Pair → Option Pair) → Result ℕ StoreFault → List ℕ → Type 0
HandsIfSound s z fits want a buffer = IsSound s → Hands s z (reads z.medium.on fits want) a buffer

-- from a store to what it becomes, by reads of its device; by none, if it is refused before them
abbrev pub ReadsOut : {D : Type 0} → Ghosts D → Store D → Store D → (fits : Bool) → (List Pair → Option Pair) → Result ℕ StoreFault → List ℕ → Type 0
ReadsOut r s z fits want a buffer =
    LooksOn r s.device z.device (λ m n t. CallsIf (can_read s.state fits) t (AllByRecursion IsRead t) × HandsIfSound (snapshot r s) (snapshot r z) fits want a buffer)

-- Each call of the search, of which `post` tells, searches its tree for what is wanted.
abbrev pub Seeks : {D : Type 0} → Ghosts D → (MutBor D → Tree → Result (Option Place) PageFault → MutBor D → Type 0) → (List Pair → Option Pair) → Type 0
Seeks {D} r post want = (d e : MutBor D) (tree : Tree) (a : Result (Option Place) PageFault)
    → post d tree a e → On r d.now e.now (λ P m Q n. Searches P m Q n tree want a)

-- the state after a search
abbrev pub shut_if_off : Result (Option Place) PageFault → State → State
shut_if_off (Ok o) s = s
shut_if_off (Err (Device Off)) s = Shut
shut_if_off (Err (Device Outside)) s = s
shut_if_off (Err (Damaged d)) s = s
