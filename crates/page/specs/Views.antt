-- What pages hold: a leaf its pairs, a branch its children and separators.
use Rattle.std.specs.Prelude.{◌≡◌, ℕ, ◌<◌, ◌≤◌, cond, List, [], map, length, get_or, Some, None, Ok, Err, Option, Result, ◌≢◌, nat_lt, slice_index_or}
use Rattle.cuts.specs.Nodes.{Pair, Branch}
use Rattle.page.specs.Kinds.{pair_of, cell_of}
use Rattle.page.specs.Layout.{cells_of, left_of}
use Rattle.page.specs.Places.{up_to}
use Rattle.page.specs.CellPages.{LeafPage, BranchPage}

abbrev pub pairs_in : List ℕ → List Pair
pairs_in bytes = map pair_of (cells_of bytes)

abbrev pub branch_in : List ℕ → Branch ℕ
branch_in bytes = record { first = left_of bytes; rest = map cell_of (cells_of bytes) }

-- the branch has a child i
abbrev pub HasChild : BranchPage → ℕ → Type 0
HasChild b i = i ≤ length (branch_in b.bytes).rest

abbrev pub leaf_pairs : LeafPage → List Pair
leaf_pairs p = pairs_in p.bytes

abbrev pub branch_node : BranchPage → Branch ℕ
branch_node p = branch_in p.bytes

abbrev pub key_of : Pair → List ℕ
key_of p = p.key

-- the key of the pair at place i; none, past the end
abbrev pub key_at : List Pair → ℕ → List ℕ
key_at ps i = key_of (slice_index_or ps i (record { key = []; value = [] }))

-- the value of the pair at place i; none, past the end
abbrev pub value_at : List Pair → ℕ → List ℕ
value_at ps i = (get_or ps i (record { key = []; value = [] })).value

-- the key of pair i, if there is such a pair, and its value
abbrev pub key_of_place : ℕ → List Pair → Option (List ℕ)
key_of_place i ps = cond (nat_lt i (length ps)) (Some (key_at ps i)) None

abbrev pub value_of_place : ℕ → List Pair → Option (List ℕ)
value_of_place i ps = cond (nat_lt i (length ps)) (Some (value_at ps i)) None

-- where the pair with this key stands, if there is one
abbrev pub FindsKey : List Pair → List ℕ → Option ℕ → Type 0
FindsKey ps k None = (j : ℕ) → j < length ps → key_at ps j ≢ k
FindsKey ps k (Some i) = (i < length ps) × (key_at ps i ≡ k)

-- the same, and if there is none, where the first pair with a greater key stands
abbrev pub SeeksKey : List Pair → List ℕ → Result ℕ ℕ → Type 0
SeeksKey ps k (Ok i) = FindsKey ps k (Some i)
SeeksKey ps k (Err a) = FindsKey ps k None × (a ≡ up_to key_of k ps)
