-- The bytes of a page of cells. A cell is given by its own bytes here; specs/Kinds.antt says which bytes those are.
use Rattle.std.specs.Prelude.{◌≡◌, ℕ, zero, suc, ◌+◌, ◌-◌, ◌*◌, ◌^◌, ◌<◌, ◌≤◌, List, [], ◌∷◌, ◌++◌, map, length}
use Rattle.std.specs.List.{range_with_len, between}
use Rattle.checksum.specs.Bytes.{le16, le32, word16, word32, zeros}
use Rattle.checksum.specs.Crc.{crc_of}

-- the cells as they lie at the end of the page: each one just below the one before
unfoldable pub bodies : List (List ℕ) → List ℕ
bodies [] = []
bodies (c ∷ cs) = bodies cs ++ c

-- the offsets of cells that lie below `top`
unfoldable pub offsets : ℕ → List (List ℕ) → List ℕ
offsets top [] = []
offsets top (c ∷ cs) = le16 (top - length c) ++ offsets (top - length c) cs

-- what the cells cost: their bytes, and two for the offset of each
abbrev pub cost : List (List ℕ) → ℕ
cost cells = 2 * length cells + length (bodies cells)

-- bytes 0 to 15: the kind, a zero, the number of cells, the offset of the lowest cell, two zeros, the leftmost
-- child, the checksum
abbrev pub header : ℕ → ℕ → ℕ → ℕ → ℕ → List ℕ
header kind leftmost sum n lowest =
    kind ∷ 0 ∷ (le16 n ++ (le16 lowest ++ (0 ∷ 0 ∷ (le32 leftmost ++ le32 sum))))

-- the header, the offsets, zeros, and the cells
unfoldable pub laid_out : ℕ → ℕ → ℕ → List (List ℕ) → List ℕ
laid_out kind leftmost sum cells =
    header kind leftmost sum (length cells) (512 - length (bodies cells))
    ++ (offsets 512 cells ++ (zeros (496 - cost cells) ++ bodies cells))

-- The page of a list of cells: its checksum is the CRC-32 of the page with the checksum taken as zero.
unfoldable pub page_of : ℕ → ℕ → List (List ℕ) → List ℕ
page_of kind leftmost cells = laid_out kind leftmost (crc_of (laid_out kind leftmost 0 cells)) cells

-- what the bytes of a page say: where cell i ends, which bytes it has, the cells, the leftmost child, the checksum
unfoldable pub edge_at : List ℕ → ℕ → ℕ
edge_at bytes zero = 512
edge_at bytes (suc i) = word16 bytes (16 + 2 * i)

unfoldable pub cell_in : List ℕ → ℕ → List ℕ
cell_in bytes i = between (edge_at bytes (i + 1)) (edge_at bytes i) bytes

unfoldable pub cells_of : List ℕ → List (List ℕ)
cells_of bytes = map (cell_in bytes) (range_with_len 0 (word16 bytes 2))

abbrev pub left_of : List ℕ → ℕ
left_of bytes = word32 bytes 8

abbrev pub sum_of : List ℕ → ℕ
sum_of bytes = word32 bytes 12

-- the bytes are laid out as the page of these cells, with whatever checksum
pub record Shows (kind : ℕ) (bytes : List ℕ) (leftmost sum : ℕ) (cells : List (List ℕ)) : Type 0 where
  pub room : cost cells ≤ 496
  pub child : leftmost < 2 ^ 32
  pub word : sum < 2 ^ 32
  pub is : bytes ≡ laid_out kind leftmost sum cells

-- the bytes are laid out as the page of the cells that they say
abbrev pub Laid : ℕ → List ℕ → Type 0
Laid kind bytes = Shows kind bytes (left_of bytes) (sum_of bytes) (cells_of bytes)
