-- How many nodes a tree has, and how many an edit makes.
use Rattle.std.specs.Prelude.{ℕ, zero, suc, ◌+◌, ◌≤◌, Bool, true, false, cond, List, [], ◌∷◌, length}
use Rattle.std.specs.List.{AllByRecursion}
use Rattle.cuts.specs.Nodes.{Pair, Cell, Branch}
use Rattle.cuts.specs.Cuts.{total}
use Rattle.tree.specs.Trees.{Tree, BTree, underfull}
use Rattle.tree.specs.Edits.{Grown, one, two, placed, mended, join, edit}
use Rattle.tree.specs.Search.{picked, child_at}
use Rattle.tree.specs.Places.{map_branch, map_grown}

-- a sum over the children of a branch
abbrev pub sum_over : {X : Type 0} → (X → ℕ) → Branch X → ℕ
sum_over w b = w b.first + total (λ c. w c.child) b.rest

abbrev pub nodes : (n : ℕ) → Tree n → ℕ
nodes zero t = 1
nodes (suc n) t = suc (sum_over (nodes n) t)

abbrev pub nodes_of : BTree → ℕ
nodes_of b = nodes b.height b.root

-- A child, marked new if the edit made it. The steps of the edit on marked children: those that were there are old,
-- and what an edit or a join puts in place is new. A node that is joined at once is not there any more, and does
-- not count.
pub record Marked (X : Type 0) : Type 0 where
  pub node : X
  pub is_new : Bool

abbrev pub old : {X : Type 0} → X → Marked X
old x = record { node = x; is_new = false }

abbrev pub new : {X : Type 0} → X → Marked X
new x = record { node = x; is_new = true }

abbrev pub marked_step : {X : Type 0} → (X → Bool) → (X → List ℕ → X → Grown X) → (X → Grown X) → List ℕ → Branch X
    → Branch (Marked X)
marked_step under joins e k b =
    mended (λ m. under m.node) (λ l s r. map_grown new (joins l.node s r.node))
    (placed (λ m. map_grown new (e m.node)) k (map_branch old b))

abbrev pub mark : {X : Type 0} → Marked X → ℕ
mark m = cond m.is_new 1 0

-- the nodes that an edit makes below the node that it begins at, level by level: its new children, then those below
-- the child that the key lies under
unfoldable pub made_below : (List Pair → List Pair) → List ℕ → (n : ℕ) → Tree n → List ℕ
made_below e k zero t = []
made_below e k (suc n) t =
    sum_over mark (marked_step (underfull n) (join n) (edit e k n) k t) ∷ made_below e k n (child_at (picked k t.rest) t.first t.rest)

-- the nodes that take the root's place: two with a new root above them, one, or none if it gives way to its child
abbrev pub made_in_place_of : {X : Type 0} → List (Cell X) → ℕ
made_in_place_of [] = 0
made_in_place_of (c ∷ cs) = 1

abbrev pub made_at_root : (n : ℕ) → Grown (Tree n) → ℕ
made_at_root zero (one t) = 1
made_at_root (suc n) (one t) = made_in_place_of t.rest
made_at_root n (two l s r) = 3

abbrev pub made : (List Pair → List Pair) → List ℕ → BTree → ℕ
made e k b = made_at_root b.height (edit e k b.height b.root) + total (λ m. m) (made_below e k b.height b.root)

-- branches with three children or more, and a root with two or more
abbrev pub children : {X : Type 0} → Branch X → ℕ
children b = suc (length b.rest)

abbrev pub EachChild : {X : Type 0} → (X → Type 0) → Branch X → Type 0
EachChild P b = P b.first × AllByRecursion (λ c. P c.child) b.rest

abbrev pub Wide : (n : ℕ) → Tree n → Type 0
Wide zero t = Unit {0}
Wide (suc n) t = (3 ≤ children t) × EachChild (Wide n) t

abbrev pub WideBelow : (n : ℕ) → Tree n → Type 0
WideBelow zero t = Unit {0}
WideBelow (suc n) t = (2 ≤ children t) × EachChild (Wide n) t
