-- Trees as values, without pages.
use Rattle.std.specs.Prelude.{ℕ, zero, suc, Bool, List, [], ◌++◌, nat_lt}
use Rattle.std.specs.List.{flat_map}
use Rattle.cuts.specs.Nodes.{Pair, Cell, Branch, pair_cost, cell_cost}
use Rattle.cuts.specs.Cuts.{total}
use Rattle.cuts.specs.Sizes.{quarter}

abbrev pub cell : {X : Type 0} → List ℕ → X → Cell X
cell s x = record { separator = s; child = x }

abbrev pub branch : {X : Type 0} → X → List (Cell X) → Branch X
branch x cs = record { first = x; rest = cs }

-- A node with n levels of branches down to the leaves, and all that lies under it. So all leaves lie equally deep.
abbrev pub Tree : ℕ → Type 0
Tree zero = List Pair
Tree (suc n) = Branch (Tree n)

-- a whole tree: its root, and how many levels lie below that
pub record BTree : Type 0 where
  pub height : ℕ
  pub root : Tree height

abbrev pub empty : BTree
empty = record { height = zero; root = [] }

abbrev pub levels : BTree → ℕ
levels b = suc b.height

-- what a node costs
abbrev pub leaf_cost : List Pair → ℕ
leaf_cost ps = total pair_cost ps

abbrev pub branch_cost : {X : Type 0} → Branch X → ℕ
branch_cost b = total cell_cost b.rest

abbrev pub cost : (n : ℕ) → Tree n → ℕ
cost zero t = leaf_cost t
cost (suc n) t = branch_cost t

abbrev pub underfull : (n : ℕ) → Tree n → Bool
underfull n t = nat_lt (cost n t) quarter

-- the pairs, from the left
abbrev pub across : {X : Type 0} → (X → List Pair) → X → List (Cell X) → List Pair
across f x cs = f x ++ flat_map (λ c. f c.child) cs

abbrev pub pairs : (n : ℕ) → Tree n → List Pair
pairs zero t = t
pairs (suc n) t = across (pairs n) t.first t.rest

abbrev pub pairs_of : BTree → List Pair
pairs_of b = pairs b.height b.root
