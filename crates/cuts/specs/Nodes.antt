-- What stands in the nodes of a tree, and what it costs.
use Rattle.std.specs.Prelude.{ℕ, ◌+◌, ◌≤◌, List, length}
use Rattle.cuts.specs.Keys.{KeyFits}

-- a cell of a leaf
pub record Pair : Type 0 where
  pub key : List ℕ
  pub value : List ℕ

-- a cell of a branch: the keys under its child are at least the separator
pub record Cell (X : Type 0) : Type 0 where
  pub separator : List ℕ
  pub child : X

-- a branch: its leftmost child, and its cells
pub record Branch (X : Type 0) : Type 0 where
  pub first : X
  pub rest : List (Cell X)

-- values have 0 to 128 bytes
abbrev pub PairFits : Pair → Type 0
PairFits p = KeyFits p.key × (length p.value ≤ 128)

abbrev pub CellFits : {X : Type 0} → Cell X → Type 0
CellFits c = KeyFits c.separator

-- the bytes of a page that a cell takes, its offset included: at most 196 in a leaf, and 72 in a branch
abbrev pub pair_cost : Pair → ℕ
pair_cost p = 4 + (length p.key + length p.value)

abbrev pub cell_cost : {X : Type 0} → Cell X → ℕ
cell_cost c = 8 + length c.separator
