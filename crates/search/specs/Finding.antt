-- What a search in a tree on the pages of a device finds.
use Rattle.std.specs.Prelude.{◌≡◌, ℕ, zero, suc, ◌<◌, Bool, true, false, List, [], ◌∷◌, length, Some, None, Ok, Err, Option, Result, slice_index_or}
use Rattle.std.specs.List.{ContainsAt, flat_map, AllByRecursion}
use Rattle.std.specs.Option.{option_map}
use Rattle.device.specs.Medium.{Medium}
use Rattle.device.specs.History.{History}
use Rattle.device.specs.Looking.{Looks}
use Rattle.device.specs.declared.fault.DeviceFault.TheVariants.{Off}
use Rattle.cuts.specs.Nodes.{Pair}
use Rattle.tree.specs.Maps.{pair, lookup}
use Rattle.tree.specs.Sound.{SoundTree}
use Rattle.page.specs.Views.{leaf_pairs}
use Rattle.page.specs.declared.fault.PageFault.{PageFault}
use Rattle.page.specs.declared.fault.PageFault.TheVariants.{Device}
use Rattle.paged.specs.Paged.{PagedTree, root_page, children, pages_of, as_tree, pairs_on, Lies}
use Rattle.search.specs.declared.Place.{Place}
use Rattle.search.specs.declared.Tree.{Tree}

-- the pair with this key in a list, if there is one
abbrev pub pair_with : List ℕ → List Pair → Option Pair
pair_with k ps = option_map (pair k) (lookup k ps)

-- the pair in cell i of a list
abbrev pub pair_at : List Pair → ℕ → Pair
pair_at ps i = slice_index_or ps i (pair [] [])

-- the cell of the place is one of its leaf, and holds the pair
pub record Holds (place : Place) (p : Pair) : Type 0 where
  pub within : place.cell < length (leaf_pairs place.leaf)
  pub pair_is : pair_at (leaf_pairs place.leaf) place.cell ≡ p

-- the pages of the leaves of a tree, from the left
abbrev pub leaf_pages : (n : ℕ) → PagedTree n → List ℕ
leaf_pages zero t = t.page ∷ []
leaf_pages (suc n) t = flat_map (leaf_pages n) (children t.node)

-- the place of the pair p in the tree t, which lies on the pages whose bytes m gives: one of its leaves, as it stands
-- on its page, and the cell with the pair
pub record PlaceOf (m : ℕ → List ℕ) (n : ℕ) (t : PagedTree n) (p : Pair) (place : Place) : Type 0 where
  pub page : ℕ
  pub of_leaf : ContainsAt (leaf_pages n t) page
  pub bytes_are : place.leaf.bytes ≡ m page
  pub holds : Holds place p

-- The answer of a search for the pair o, if there is such a pair: its place. A device that is off answers only that it is.
abbrev pub Answers : (m : ℕ → List ℕ) (n : ℕ) → PagedTree n → (on : Bool) → Option Pair → Result (Option Place) PageFault → Type 0
Answers m n t false o r = r ≡ Err (Device Off)
Answers m n t true None r = r ≡ Ok None
Answers m n t true (Some p) r = (place : Place) × (r ≡ Ok (Some place)) × PlaceOf m n t p place

-- the tree t, from page `root` of the device on
pub record Standing (m : Medium) (n root : ℕ) (t : PagedTree n) : Type 0 where
  pub starts : root_page n t ≡ root
  pub lies : Lies m.bytes n t
  pub inside : AllByRecursion (λ (p : ℕ). p < m.size) (pages_of n t)

-- Whichever sound tree of this height stands there, the search finds in it what is wanted of its pairs. (At most one
-- tree stands there. Where none does, or one that is not sound, nothing is said.)
abbrev pub Finds : Medium → (on : Bool) → Tree → (List Pair → Option Pair) → Result (Option Place) PageFault → Type 0
Finds m on at want r = (n : ℕ) (t : PagedTree n)
    → at.height ≡ n → Standing m n at.root t → SoundTree (as_tree n t) → Answers m.bytes n t on (want (pairs_on n t)) r

-- a search on a device: reads lead from the medium m to the medium n, and it has found what is wanted
abbrev pub Searches : (P : History → Type 0) (m : Medium) (Q : History → Type 0) (n : Medium) → Tree
    → (List Pair → Option Pair) → Result (Option Place) PageFault → Type 0
Searches P m Q n at want r = Looks P m Q n (λ _. Finds m n.on at want r)
