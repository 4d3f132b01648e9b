-- Trees on the pages of a device.
use Rattle.std.specs.Prelude.{◌≡◌, ℕ, zero, suc, List, [], ◌∷◌, map, None}
use Rattle.std.specs.List.{flat_map, AllByRecursion}
use Rattle.cuts.specs.Nodes.{Pair, Branch}
use Rattle.tree.specs.Trees.{Tree, BTree, pairs_of}
use Rattle.tree.specs.Places.{map_branch}
use Rattle.page.specs.Kinds.{leaf_rules, branch_rules}
use Rattle.page.specs.Reading.{first_fault}
use Rattle.page.specs.Views.{pairs_in, branch_in}

-- a node, with the page that it stands on
pub record Paged (X : Type 0) : Type 0 where
  pub page : ℕ
  pub node : X

-- a tree with n levels of branches down to the leaves, each node of which stands on a page
abbrev pub PagedTree : ℕ → Type 0
PagedTree zero = Paged (List Pair)
PagedTree (suc n) = Paged (Branch (PagedTree n))

abbrev pub root_page : (n : ℕ) → PagedTree n → ℕ
root_page zero t = t.page
root_page (suc n) t = t.page

abbrev pub children : {X : Type 0} → Branch X → List X
children b = b.first ∷ map (λ c. c.child) b.rest

-- its pages, that of a node before those of its children
abbrev pub pages_of : (n : ℕ) → PagedTree n → List ℕ
pages_of zero t = t.page ∷ []
pages_of (suc n) t = t.page ∷ flat_map (pages_of n) (children t.node)

-- the tree as a value, without its pages, and its pairs
abbrev pub bare : (n : ℕ) → PagedTree n → Tree n
bare zero t = t.node
bare (suc n) t = map_branch (bare n) t.node

abbrev pub as_tree : (n : ℕ) → PagedTree n → BTree
as_tree n t = record { height = n; root = bare n t }

abbrev pub pairs_on : (n : ℕ) → PagedTree n → List Pair
pairs_on n t = pairs_of (as_tree n t)

-- In these, m gives the bytes of each page.

-- the tree lies on the pages: reading accepts the page of each node, and the page says that node
abbrev pub Lies : (m : ℕ → List ℕ) (n : ℕ) → PagedTree n → Type 0
Lies m zero t = (first_fault leaf_rules (m t.page) ≡ None) × (pairs_in (m t.page) ≡ t.node)
Lies m (suc n) t =
    (first_fault branch_rules (m t.page) ≡ None)
    × (branch_in (m t.page) ≡ map_branch (root_page n) t.node)
    × AllByRecursion (Lies m n) (children t.node)

-- what the pages say from page p on, whatever that is
abbrev pub tree_at : (m : ℕ → List ℕ) (n : ℕ) → ℕ → PagedTree n
tree_at m zero p = record { page = p; node = pairs_in (m p) }
tree_at m (suc n) p = record { page = p; node = map_branch (tree_at m n) (branch_in (m p)) }
