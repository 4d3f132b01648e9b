-- The steps at a branch by the number of the child, as code goes about them, and a branch seen through a function of
-- its children, as code sees a tree through page numbers.
use Rattle.std.specs.Prelude.{ℕ, zero, suc, Bool, cond, List, [], ◌∷◌, map}
use Rattle.cuts.specs.Nodes.{Pair, Cell, Branch}
use Rattle.tree.specs.Trees.{branch, Tree, branch_cost, underfull}
use Rattle.tree.specs.Edits.{Grown, one, two, cut_branch, fit, join, in_place, prepend, edit}
use Rattle.tree.specs.Search.{picked, child_at}

-- the separator after child i
abbrev pub separator_at : {X : Type 0} → ℕ → List (Cell X) → List ℕ
separator_at i [] = []
separator_at zero (c ∷ cs) = c.separator
separator_at (suc i) (c ∷ cs) = separator_at i cs

-- g in place of child i
abbrev pub splice : {X : Type 0} → ℕ → Grown X → X → List (Cell X) → Branch X
splice zero g x cs = in_place g cs
splice (suc i) g x [] = branch x []
splice (suc i) g x (c ∷ cs) = prepend x c.separator (splice i g c.child cs)

-- g in place of child i and the one after it
abbrev pub splice_two : {X : Type 0} → ℕ → Grown X → X → List (Cell X) → Branch X
splice_two i g x [] = branch x []
splice_two zero g x (c ∷ cs) = in_place g cs
splice_two (suc i) g x (c ∷ cs) = prepend x c.separator (splice_two i g c.child cs)

-- y, which has come in place of child i and is underfull, joined with its left neighbour, or with the right one
abbrev pub join_at : {X : Type 0} → (X → List ℕ → X → Grown X) → ℕ → X → X → List (Cell X) → Branch X
join_at joins zero y x cs = splice_two 0 (joins y (separator_at 0 cs) (child_at 1 x cs)) x cs
join_at joins (suc i) y x cs = splice_two i (joins (child_at i x cs) (separator_at i cs) y) x cs

-- g in place of child i, joined with a neighbour if it is one node and underfull
abbrev pub repair_at : {X : Type 0} → (X → Bool) → (X → List ℕ → X → Grown X) → ℕ → Grown X → X → List (Cell X)
    → Branch X
repair_at under joins i (one y) x cs = cond (under y) (join_at joins i y x cs) (splice i (one y) x cs)
repair_at under joins i (two l s r) x cs = splice i (two l s r) x cs

-- the edit of a branch
abbrev pub edit_by_place : (List Pair → List Pair) → List ℕ → (n : ℕ) → Tree (suc n) → Grown (Tree (suc n))
edit_by_place e k n t =
    let i = picked k t.rest in
    let g = edit e k n (child_at i t.first t.rest) in
    fit branch_cost cut_branch (repair_at (underfull n) (join n) i g t.first t.rest)

-- through a function of the children
abbrev pub map_cell : {X Y : Type 0} → (X → Y) → Cell X → Cell Y
map_cell f c = record { separator = c.separator; child = f c.child }

abbrev pub map_branch : {X Y : Type 0} → (X → Y) → Branch X → Branch Y
map_branch f b = branch (f b.first) (map (map_cell f) b.rest)

abbrev pub map_grown : {X Y : Type 0} → (X → Y) → Grown X → Grown Y
map_grown f (one x) = one (f x)
map_grown f (two l s r) = two (f l) s (f r)
