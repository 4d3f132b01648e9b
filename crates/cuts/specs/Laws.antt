-- What holds of separators and cuts. The cuts are stated over u usable bytes and cells of at most m, and then for
-- the cells that there are.
use Rattle.std.specs.Prelude.{◌≡◌, ℕ, suc, ◌+◌, ◌*◌, ◌<◌, ◌≤◌, max, List, length, take, drop}
use Rattle.std.specs.List.{AllByRecursion}
use Rattle.cuts.specs.Keys.{Below, AtMost, separator}
use Rattle.cuts.specs.Nodes.{Pair, Cell, PairFits, CellFits, pair_cost, cell_cost}
use Rattle.cuts.specs.Cuts.{total, fair, middle}
use Rattle.cuts.specs.Sizes.{usable, quarter_of, largest_pair, largest_cell, WellFilled}

-- the separator of two keys is above the left one and at most the right one, a prefix of that, and no prefix
-- above the left key is shorter
pub record Separates (left right s : List ℕ) : Type 0 where
  pub above : Below left s
  pub at_most : AtMost s right
  pub prefix : take (length s) right ≡ s
  pub shortest : (j : ℕ) → Below left (take j right) → length s ≤ j
  pub within : length s ≤ length right
  pub some : 1 ≤ length s

abbrev pub SeparatorsAreShortest : Type 0
SeparatorsAreShortest = (left right : List ℕ) → Below left right → Separates left right (separator left right)

-- the two parts of a leaf's list that is cut at i, and of a branch's that gives up its cell at i
abbrev pub LeafPartsFit : {X : Type 0} → (X → ℕ) → ℕ → List X → ℕ → Type 0
LeafPartsFit f u xs i = WellFilled u (total f (take i xs)) × WellFilled u (total f (drop i xs))

abbrev pub BranchPartsFit : {X : Type 0} → (X → ℕ) → ℕ → List X → ℕ → Type 0
BranchPartsFit f u xs i = (i < length xs) × WellFilled u (total f (take i xs)) × WellFilled u (total f (drop (suc i) xs))

-- both cuts, over costs alone: where the list costs neither too little nor too much, the parts fit
abbrev pub sum : List ℕ → ℕ
sum costs = total (λ c. c) costs

abbrev pub leaf_cut : List ℕ → ℕ
leaf_cut costs = fair (λ c. c) 0 costs

abbrev pub branch_cut : List ℕ → ℕ
branch_cut costs = middle (λ c. c) (sum costs) 0 costs

abbrev pub LeafCutsFit : Type 0
LeafCutsFit = (u m : ℕ) (costs : List ℕ) → AllByRecursion (λ c. c ≤ m) costs
    → m + 2 * quarter_of u ≤ sum costs → sum costs + m ≤ suc (2 * u)
    → LeafPartsFit (λ c. c) u costs (leaf_cut costs)

abbrev pub BranchCutsFit : Type 0
BranchCutsFit = (u m : ℕ) (costs : List ℕ) → AllByRecursion (λ c. c ≤ m) costs
    → 0 < sum costs → 2 * m + 2 * quarter_of u ≤ sum costs → sum costs ≤ suc (2 * u)
    → BranchPartsFit (λ c. c) u costs (branch_cut costs)

-- the cell that a branch gives up is the first at which it and those before it cost more than half
abbrev pub BranchCutsAreJustPastHalf : Type 0
BranchCutsAreJustPastHalf = (costs : List ℕ) → 0 < sum costs
    → (sum costs < 2 * sum (take (suc (branch_cut costs)) costs))
    × ((j : ℕ) → j < branch_cut costs → 2 * sum (take (suc j) costs) ≤ sum costs)

-- A leaf's list that is overfull by at most one cell, as an edit leaves it, or by less than a quarter, as a join
-- does.
abbrev pub OverfullLeafIsCut : ℕ → Type 0
OverfullLeafIsCut u = (ps : List Pair) → AllByRecursion PairFits ps
    → u < total pair_cost ps → total pair_cost ps ≤ u + max largest_pair (quarter_of u)
    → LeafPartsFit pair_cost u ps (fair pair_cost 0 ps)

-- The same for a branch: the costliest list is an underfull one joined with a full one, the separator between them.
abbrev pub OverfullBranchIsCut : ℕ → Type 0
OverfullBranchIsCut u = (cs : List (Cell ℕ)) → AllByRecursion CellFits cs
    → u < total cell_cost cs → total cell_cost cs < u + quarter_of u + largest_cell
    → BranchPartsFit cell_cost u cs (middle cell_cost (total cell_cost cs) 0 cs)

abbrev pub OverfullLeavesAreCut : Type 0
OverfullLeavesAreCut = OverfullLeafIsCut usable × ((u : ℕ) → 2 * largest_pair ≤ suc u → OverfullLeafIsCut u)

abbrev pub OverfullBranchesAreCut : Type 0
OverfullBranchesAreCut = OverfullBranchIsCut usable × ((u : ℕ) → 4 * largest_cell ≤ suc u → OverfullBranchIsCut u)

-- the cost of the larger part
abbrev pub larger : List Pair → ℕ → ℕ
larger ps i = max (total pair_cost (take i ps)) (total pair_cost (drop i ps))

-- no cut of a leaf has a cheaper larger part, and none with a shorter left part has as cheap a one
abbrev pub LeafCutsAreFairest : Type 0
LeafCutsAreFairest = (ps : List Pair) (j : ℕ)
    → (larger ps (fair pair_cost 0 ps) ≤ larger ps j)
    × (j < fair pair_cost 0 ps → larger ps (fair pair_cost 0 ps) < larger ps j)

-- a branch that is not underfull has two cells, and so three children
abbrev pub FilledBranchesHaveTwoCells : Type 0
FilledBranchesHaveTwoCells = (u : ℕ) → largest_cell < quarter_of u
    → (cs : List (Cell ℕ)) → AllByRecursion CellFits cs → quarter_of u ≤ total cell_cost cs → 2 ≤ length cs
