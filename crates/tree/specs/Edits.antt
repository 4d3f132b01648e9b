-- Put and remove. Both are one edit: the leaf's list is edited, and each node on the way up puts its child's result
-- in place, joins a child that has become underfull with a neighbour, and is itself cut if it is overfull. (A put
-- may make a leaf underfull, by a shorter value, and a remove a branch overfull, by a longer separator.)
-- The steps at a branch do not look into the children, so they serve page numbers and trees alike.
use Rattle.std.specs.Prelude.{ℕ, zero, suc, Bool, cond, ◌||◌, List, [], ◌∷◌, ◌++◌, take, drop, nat_le}
use Rattle.cuts.specs.Keys.{key<, separator}
use Rattle.cuts.specs.Nodes.{Pair, Cell, Branch, pair_cost, cell_cost}
use Rattle.cuts.specs.Cuts.{total, fair, middle}
use Rattle.cuts.specs.Sizes.{usable}
use Rattle.tree.specs.Maps.{insert, delete}
use Rattle.tree.specs.Trees.{cell, branch, Tree, BTree, leaf_cost, branch_cost, cost, underfull}

-- what an edit leaves in place of a node: one node, or two with the separator between them
pub data Grown (X : Type 0) : Type 0 where
  one : X → Grown X
  two : X → List ℕ → X → Grown X

-- Cut: of a leaf the last key on the left and the first on the right give the separator, a branch gives one up.
abbrev pub first_key : List Pair → List ℕ
first_key [] = []
first_key (p ∷ ps) = p.key

abbrev pub last_key : List Pair → List ℕ
last_key [] = []
last_key (p ∷ []) = p.key
last_key (p ∷ q ∷ ps) = last_key (q ∷ ps)

abbrev pub cut_leaf_at : ℕ → List Pair → Grown (List Pair)
cut_leaf_at i ps = two (take i ps) (separator (last_key (take i ps)) (first_key (drop i ps))) (drop i ps)

abbrev pub cut_leaf : List Pair → Grown (List Pair)
cut_leaf ps = cut_leaf_at (fair pair_cost 0 ps) ps

abbrev pub give_up : {X : Type 0} → X → List (Cell X) → List (Cell X) → Grown (Branch X)
give_up x bs [] = one (branch x bs)
give_up x bs (c ∷ cs) = two (branch x bs) c.separator (branch c.child cs)

abbrev pub cut_branch_at : {X : Type 0} → ℕ → Branch X → Grown (Branch X)
cut_branch_at i b = give_up b.first (take i b.rest) (drop i b.rest)

abbrev pub cut_branch : {X : Type 0} → Branch X → Grown (Branch X)
cut_branch b = cut_branch_at (middle cell_cost (total cell_cost b.rest) 0 b.rest) b

abbrev pub cut : (n : ℕ) → Tree n → Grown (Tree n)
cut zero t = cut_leaf t
cut (suc n) t = cut_branch t

-- a node as it is, or cut if it is overfull
unfoldable pub fit : {X : Type 0} → (X → ℕ) → (X → Grown X) → X → Grown X
fit costs cuts x = cond (nat_le (costs x) usable) (one x) (cuts x)

-- Join: between branches the parent's separator comes down.
abbrev pub merge_leaves : List Pair → List ℕ → List Pair → List Pair
merge_leaves l s r = l ++ r

abbrev pub merge_branches : {X : Type 0} → Branch X → List ℕ → Branch X → Branch X
merge_branches l s r = branch l.first (l.rest ++ (cell s r.first ∷ r.rest))

abbrev pub merge : (n : ℕ) → Tree n → List ℕ → Tree n → Tree n
merge zero l s r = merge_leaves l s r
merge (suc n) l s r = merge_branches l s r

abbrev pub join : (n : ℕ) → Tree n → List ℕ → Tree n → Grown (Tree n)
join n l s r = fit (cost n) (cut n) (merge n l s r)

-- Place: what an edit left of a child, before the cells that follow it; and a child with its separator before those.
abbrev pub in_place : {X : Type 0} → Grown X → List (Cell X) → Branch X
in_place (one x) cs = branch x cs
in_place (two l s r) cs = branch l (cell s r ∷ cs)

abbrev pub prepend : {X : Type 0} → X → List ℕ → Branch X → Branch X
prepend x s b = branch x (cell s b.first ∷ b.rest)

-- the edit e at the child that k lies under
unfoldable pub place : {X : Type 0} → (X → Grown X) → List ℕ → X → List (Cell X) → Branch X
place e k x [] = in_place (e x) []
place e k x (c ∷ cs) = cond (key< k c.separator) (in_place (e x) (c ∷ cs)) (prepend x c.separator (place e k c.child cs))

-- Mend: the first underfull child is joined with its left neighbour, or with the right one if it has none.
unfoldable pub mend : {X : Type 0} → (X → Bool) → (X → List ℕ → X → Grown X) → X → List (Cell X) → Branch X
mend under joins x [] = branch x []
mend under joins x (c ∷ cs) = cond (under x || under c.child)
    (in_place (joins x c.separator c.child) cs)
    (prepend x c.separator (mend under joins c.child cs))

-- place and mend at a branch
abbrev pub mended : {X : Type 0} → (X → Bool) → (X → List ℕ → X → Grown X) → Branch X → Branch X
mended under joins b = mend under joins b.first b.rest

abbrev pub placed : {X : Type 0} → (X → Grown X) → List ℕ → Branch X → Branch X
placed e k b = place e k b.first b.rest

-- an edit e of a list of pairs, at the key k
unfoldable pub edit : (List Pair → List Pair) → List ℕ → (n : ℕ) → Tree n → Grown (Tree n)
edit e k zero t = fit leaf_cost cut_leaf (e t)
edit e k (suc n) t = fit branch_cost cut_branch (mended (underfull n) (join n) (placed (edit e k n) k t))

-- The root: one that was cut gets a new root above it, and a branch without separators gives way to its child.
abbrev pub give_way : (n : ℕ) → Tree n → List (Cell (Tree n)) → BTree
give_way n x [] = record { height = n; root = x }
give_way n x (c ∷ cs) = record { height = suc n; root = branch x (c ∷ cs) }

abbrev pub rooted : (n : ℕ) → Grown (Tree n) → BTree
rooted zero (one t) = record { height = zero; root = t }
rooted (suc n) (one t) = give_way n t.first t.rest
rooted n (two l s r) = record { height = suc n; root = branch l (cell s r ∷ []) }

abbrev pub put : BTree → List ℕ → List ℕ → BTree
put b k v = rooted b.height (edit (insert k v) k b.height b.root)

abbrev pub remove : BTree → List ℕ → BTree
remove b k = rooted b.height (edit (delete k) k b.height b.root)
