-- How many nodes an edit makes and adds, and how low a sound tree is.
use Rattle.std.specs.Prelude.{◌≡◌, ℕ, suc, ◌+◌, ◌*◌, ◌^◌, ◌≤◌, List, length}
use Rattle.std.specs.List.{AllByRecursion}
use Rattle.cuts.specs.Keys.{KeyFits}
use Rattle.cuts.specs.Nodes.{Pair}
use Rattle.tree.specs.Maps.{insert, delete}
use Rattle.tree.specs.Trees.{Tree, BTree, levels, branch_cost, underfull}
use Rattle.tree.specs.Edits.{cut_branch, fit, join, edit, put, remove}
use Rattle.tree.specs.Sound.{SoundTree}
use Rattle.tree.specs.Places.{map_branch}
use Rattle.tree.specs.Counts.{nodes_of, marked_step, made_below, made_at_root, made, WideBelow}

-- the step with marks is the edit's own
abbrev pub MarkedStepsAreTheEdits : Type 0
MarkedStepsAreTheEdits = (e : List Pair → List Pair) (k : List ℕ) (n : ℕ) (t : Tree (suc n))
    → fit branch_cost cut_branch (map_branch (λ m. m.node) (marked_step (underfull n) (join n) (edit e k n) k t))
    ≡ edit e k (suc n) t

-- at most two new nodes a level, and three at the root
pub record MakesFewNodes (e : List Pair → List Pair) (k : List ℕ) (b : BTree) : Type 0 where
  pub below : AllByRecursion (λ m. m ≤ 2) (made_below e k b.height b.root)
  pub at_root : made_at_root b.height (edit e k b.height b.root) ≤ 3
  pub in_all : made e k b ≤ 2 * levels b + 1

abbrev pub EditsMakeFewNodes : Type 0
EditsMakeFewNodes = (b : BTree) → SoundTree b
    → ((k v : List ℕ) → KeyFits k → length v ≤ 128 → MakesFewNodes (insert k v) k b)
    × ((k : List ℕ) → MakesFewNodes (delete k) k b)

abbrev pub EditsAddFewNodes : Type 0
EditsAddFewNodes = (b : BTree) → SoundTree b → (k v : List ℕ)
    → (nodes_of (put b k v) ≤ nodes_of b + levels b + 1) × (nodes_of (remove b k) ≤ nodes_of b + levels b)

-- every branch but the root has three children or more, and a branch root two
abbrev pub BranchesAreWide : Type 0
BranchesAreWide = (b : BTree) → SoundTree b → WideBelow b.height b.root

-- so the tree is low: on at most 1,024 pages, of which two are meta pages, it has at most seven levels
abbrev pub SoundTreesAreLow : Type 0
SoundTreesAreLow = (b : BTree) → SoundTree b → (3 ^ b.height ≤ nodes_of b) × (nodes_of b ≤ 1022 → levels b ≤ 7)
