-- How a search on pages follows the one on trees as values: by the same way, in any tree, sound or not.
use Rattle.std.specs.Prelude.{◌≡◌, ℕ, ◌-◌, Bool, List, Some, None, Option, Result}
use Rattle.std.specs.Option.{option_map}
use Rattle.device.specs.Medium.{Medium}
use Rattle.device.specs.History.{History}
use Rattle.device.specs.Looking.{Looks}
use Rattle.cuts.specs.Nodes.{Pair, Branch}
use Rattle.tree.specs.Maps.{pair}
use Rattle.tree.specs.Trees.{Tree as TreeValue}
use Rattle.tree.specs.Search.{child_at, find, after}
use Rattle.page.specs.declared.fault.PageFault.{PageFault}
use Rattle.page.specs.CellPages.{LeafPage}
use Rattle.paged.specs.Paged.{PagedTree, bare}
use Rattle.search.specs.declared.Place.{Place}
use Rattle.search.specs.declared.Tree.{Tree}
use Rattle.search.specs.Finding.{Holds, Standing, Answers}

-- a search down trees, and the two that there are
abbrev pub Search : Type 0
Search = (n : ℕ) → TreeValue n → Option Pair

abbrev pub find_pair : List ℕ → Search
find_pair k n t = option_map (pair k) (find n t k)

abbrev pub find_next : List ℕ → Search
find_next k n t = after n t k

-- the answer of a search in one leaf
abbrev pub InLeaf : LeafPage → Option Pair → Option Place → Type 0
InLeaf leaf None r = r ≡ None
InLeaf leaf (Some p) r = (place : Place) × (r ≡ Some place) × (place.leaf.bytes ≡ leaf.bytes) × Holds place p

-- the answer of a search from a page on
abbrev pub Follows : Medium → (on : Bool) → Tree → Search → Result (Option Place) PageFault → Type 0
Follows m on at s r = (n : ℕ) (t : PagedTree n)
    → at.height ≡ n → Standing m n at.root t → Answers m.bytes n t on (s n (bare n t)) r

abbrev pub Descends : (P : History → Type 0) (m : Medium) (Q : History → Type 0) (n : Medium) → Tree
    → Search → Result (Option Place) PageFault → Type 0
Descends P m Q n at s r = Looks P m Q n (λ _. Follows m n.on at s r)

-- the tree under child i of the branch on the root of another
abbrev pub tree_under : Tree → ℕ → Branch ℕ → Tree
tree_under at i b = record { root = child_at i b.first b.rest; height = at.height - 1 }
