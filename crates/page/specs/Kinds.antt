-- The kinds of cells.
use Rattle.std.specs.Prelude.{ℕ, ◌+◌, Bool, true, ◌&&◌, List, ◌∷◌, ◌++◌, length, take, drop, ◌==◌, nat_le, slice_index}
use Rattle.checksum.specs.Bytes.{le32, word32}
use Rattle.checksum.specs.Kinds.{kind_byte}
use Rattle.checksum.specs.declared.kind.Kind.TheVariants.{Leaf, Branch}
use Rattle.cuts.specs.Nodes.{Pair, Cell}

-- what a kind fixes: its kind byte, which bytes are a cell, the key of a cell, and which numbers may stand in the
-- place of the leftmost child
pub record Rules : Type 0 where
  pub kind : ℕ
  pub good : List ℕ → Bool
  pub key : List ℕ → List ℕ
  pub leftmost : ℕ → Bool

-- a key or a separator may have so many bytes
abbrev pub is_key_length : ℕ → Bool
is_key_length n = nat_le 1 n && nat_le n 64

-- A leaf cell is the key's length, the value's length, the key, the value.
abbrev pub leaf_body : Pair → List ℕ
leaf_body p = length p.key ∷ length p.value ∷ (p.key ++ p.value)

abbrev pub leaf_good : List ℕ → Bool
leaf_good b =
    nat_le 2 (length b) && (is_key_length (slice_index b 0) && (nat_le (slice_index b 1) 128 && length b == 2 + slice_index b 0 + slice_index b 1))

abbrev pub leaf_key : List ℕ → List ℕ
leaf_key b = take (slice_index b 0) (drop 2 b)

abbrev pub pair_of : List ℕ → Pair
pair_of b = record { key = leaf_key b; value = drop (2 + slice_index b 0) b }

-- A branch cell is the separator's length, a zero, the child's page in four bytes, the separator.
abbrev pub branch_body : Cell ℕ → List ℕ
branch_body c = length c.separator ∷ 0 ∷ (le32 c.child ++ c.separator)

abbrev pub branch_good : List ℕ → Bool
branch_good b =
    nat_le 6 (length b) && (is_key_length (slice_index b 0) && (slice_index b 1 == 0 && length b == 6 + slice_index b 0))

abbrev pub branch_key : List ℕ → List ℕ
branch_key b = drop 6 b

abbrev pub cell_of : List ℕ → Cell ℕ
cell_of b = record { separator = branch_key b; child = word32 b 2 }

-- what a cell of a branch says
abbrev pub BranchItem : Type 0
BranchItem = Cell ℕ

-- a leaf has no leftmost child
abbrev pub leaf_rules : Rules
leaf_rules = record { kind = kind_byte Leaf; good = leaf_good; key = leaf_key; leftmost = λ p. (p == 0) }

abbrev pub branch_rules : Rules
branch_rules = record { kind = kind_byte Branch; good = branch_good; key = branch_key; leftmost = λ _. true }
