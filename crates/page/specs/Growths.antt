-- What edits of pages leave, as nodes without pages.
use Rattle.std.specs.Prelude.{◌≡◌, ℕ, ◌+◌, ◌<◌, ◌≤◌, Bool, true, ◌||◌, List, [], ◌∷◌, ◌++◌, length, take, drop, Some, None, Option, nat_lt}
use Rattle.cuts.specs.Keys.{KeyFits}
use Rattle.cuts.specs.Cuts.{total}
use Rattle.cuts.specs.Nodes.{Pair, Cell, Branch, cell_cost}
use Rattle.cuts.specs.Sizes.{quarter}
use Rattle.tree.specs.Maps.{Rising, insert, delete}
use Rattle.tree.specs.Trees.{cell, branch, leaf_cost, branch_cost}
use Rattle.tree.specs.Edits as tree
use Rattle.tree.specs.Places.{splice, splice_two}
use Rattle.page.specs.Branches.{ascending}
use Rattle.page.specs.Shorts.{held}
use Rattle.page.specs.Views.{leaf_pairs, branch_node, FindsKey}
use Rattle.page.specs.declared.grown.Grown.{Grown}
use Rattle.page.specs.declared.grown.Grown.TheVariants.{One, Two}
use Rattle.page.specs.CellPages.{LeafPage, BranchPage}

abbrev pub leaf_grown : Grown LeafPage → tree.Grown (List Pair)
leaf_grown (One p) = tree.one (leaf_pairs p)
leaf_grown (Two l s r) = tree.two (leaf_pairs l) (held s) (leaf_pairs r)

abbrev pub branch_grown : Grown BranchPage → tree.Grown (Branch ℕ)
branch_grown (One p) = tree.one (branch_node p)
branch_grown (Two l s r) = tree.two (branch_node l) (held s) (branch_node r)

-- a leaf's list, cut if it is too full
abbrev pub fitted : List Pair → tree.Grown (List Pair)
fitted ps = tree.fit leaf_cost tree.cut_leaf ps

-- a put refuses only what is no key and value
abbrev pub PutsPair : LeafPage → List ℕ → List ℕ → Option (Grown LeafPage) → Type 0
PutsPair p k v None = KeyFits k × (length v ≤ 128) → ⊥
PutsPair p k v (Some g) = KeyFits k × (length v ≤ 128) × (leaf_grown g ≡ fitted (insert k v (leaf_pairs p)))

-- a remove refuses only a key that is not there
abbrev pub RemovesPair : LeafPage → List ℕ → Option LeafPage → Type 0
RemovesPair p k None = FindsKey (leaf_pairs p) k None
RemovesPair p k (Some q) = ((i : ℕ) × FindsKey (leaf_pairs p) k (Some i)) × (leaf_pairs q ≡ delete k (leaf_pairs p))

-- a branch, cut if it is too full
abbrev pub fitted_branch : Branch ℕ → tree.Grown (Branch ℕ)
fitted_branch b = tree.fit branch_cost tree.cut_branch b

-- the first k cells of one branch, a cell, and the cells of a branch from m on; and what those of the pages cost
abbrev pub around : BranchPage → ℕ → Cell ℕ → BranchPage → ℕ → Branch ℕ
around p k c q m = branch (branch_node p).first (take k (branch_node p).rest ++ c ∷ drop m (branch_node q).rest)

abbrev pub cost_around : BranchPage → ℕ → BranchPage → ℕ → ℕ
cost_around p k q m = total cell_cost (take k (branch_node p).rest) + total cell_cost (drop m (branch_node q).rest)

-- the branches have so many cells, and what is kept of them costs so little that with one cell more it fits two pages
pub record TwoEnds (p : BranchPage) (k : ℕ) (q : BranchPage) (m : ℕ) : Type 0 where
  pub keep : k ≤ length (branch_node p).rest
  pub skip : m ≤ length (branch_node q).rest
  pub few : cost_around p k q m ≤ 619

-- g in place of child i of a branch, and in place of that child and the next
abbrev pub spliced : BranchPage → ℕ → tree.Grown ℕ → Branch ℕ
spliced p i g = splice i g (branch_node p).first (branch_node p).rest

abbrev pub spliced_two : BranchPage → ℕ → tree.Grown ℕ → Branch ℕ
spliced_two p i g = splice_two i g (branch_node p).first (branch_node p).rest

-- s may be a separator, and the separators of b rise
abbrev pub Sorted : List ℕ → Branch ℕ → Type 0
Sorted s b = KeyFits s × (ascending b.rest ≡ true)

-- b, cut if it is too full, unless s cannot be a separator there
abbrev pub GrowsTo : List ℕ → Branch ℕ → Option (Grown BranchPage) → Type 0
GrowsTo s b None = Sorted s b → ⊥
GrowsTo s b (Some g) = Sorted s b × (branch_grown g ≡ fitted_branch b)

-- another page for child i, if there is such a child
abbrev pub PutsChild : BranchPage → ℕ → ℕ → Option BranchPage → Type 0
PutsChild p i x None = length (branch_node p).rest < i
PutsChild p i x (Some q) = (i ≤ length (branch_node p).rest) × (branch_node q ≡ spliced p i (tree.one x))

-- two pages with a separator between them for child i
abbrev pub InsertsChild : BranchPage → ℕ → ℕ → List ℕ → ℕ → Option (Grown BranchPage) → Type 0
InsertsChild p i l s r None = (i ≤ length (branch_node p).rest) × Sorted s (spliced p i (tree.two l s r)) → ⊥
InsertsChild p i l s r (Some g) =
    (i ≤ length (branch_node p).rest) × Sorted s (spliced p i (tree.two l s r)) × (branch_grown g ≡ fitted_branch (spliced p i (tree.two l s r)))

-- one page for child i and the next, if there is a next
abbrev pub MergesChildren : BranchPage → ℕ → ℕ → Option BranchPage → Type 0
MergesChildren p i x None = length (branch_node p).rest ≤ i
MergesChildren p i x (Some q) = (i < length (branch_node p).rest) × (branch_node q ≡ spliced_two p i (tree.one x))

-- two pages with another separator for child i and the next
abbrev pub ReplacesChildren : BranchPage → ℕ → ℕ → List ℕ → ℕ → Option (Grown BranchPage) → Type 0
ReplacesChildren p i l s r None = (i < length (branch_node p).rest) × Sorted s (spliced_two p i (tree.two l s r)) → ⊥
ReplacesChildren p i l s r (Some g) =
    (i < length (branch_node p).rest) × Sorted s (spliced_two p i (tree.two l s r)) × (branch_grown g ≡ fitted_branch (spliced_two p i (tree.two l s r)))

-- the root above two pages
abbrev pub MakesRoot : ℕ → List ℕ → ℕ → Option BranchPage → Type 0
MakesRoot l s r None = KeyFits s → ⊥
MakesRoot l s r (Some q) = KeyFits s × (branch_node q ≡ branch l (cell s r ∷ []))

-- a branch that is underfull, as one of two that are joined has to be
abbrev pub light : BranchPage → Bool
light p = nat_lt (branch_cost (branch_node p)) quarter

abbrev pub merged : BranchPage → List ℕ → BranchPage → Branch ℕ
merged p s q = tree.merge_branches (branch_node p) s (branch_node q)

abbrev pub JoinsBranches : BranchPage → List ℕ → BranchPage → Option (Grown BranchPage) → Type 0
JoinsBranches p s q None = ((light p || light q) ≡ true) × Sorted s (merged p s q) → ⊥
JoinsBranches p s q (Some g) =
    ((light p || light q) ≡ true) × Sorted s (merged p s q) × (branch_grown g ≡ fitted_branch (merged p s q))

-- a leaf that is underfull, as one of two that are joined has to be
abbrev pub leaf_light : LeafPage → Bool
leaf_light p = nat_lt (leaf_cost (leaf_pairs p)) quarter

abbrev pub JoinsLeaves : LeafPage → LeafPage → Option (Grown LeafPage) → Type 0
JoinsLeaves p q None = ((leaf_light p || leaf_light q) ≡ true) × Rising (leaf_pairs p ++ leaf_pairs q) → ⊥
JoinsLeaves p q (Some g) =
    ((leaf_light p || leaf_light q) ≡ true) × Rising (leaf_pairs p ++ leaf_pairs q) × (leaf_grown g ≡ fitted (leaf_pairs p ++ leaf_pairs q))
