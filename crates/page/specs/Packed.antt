-- What a scan over the cells of a page finds. Only inner functions speak of it.
use Rattle.std.specs.Prelude.{◌≡◌, ℕ, ◌+◌, ◌*◌, ◌≤◌, true, List, length, take, drop, slice_index_or}
use Rattle.checksum.specs.Bytes.{word16}
use Rattle.page.specs.Kinds.{Rules}
use Rattle.page.specs.Layout.{bodies, offsets, cells_of, edge_at}
use Rattle.page.specs.Reading.{every}

-- the first i cells are good, and lie one below the other from the end of the page down to their offsets
pub record Packed (k : Rules) (b : List ℕ) (i : ℕ) : Type 0 where
  pub goods : every k.good (take i (cells_of b)) ≡ true
  pub low : 16 + 2 * length (cells_of b) ≤ edge_at b i
  pub high : edge_at b i ≤ 512
  pub packs : bodies (take i (cells_of b)) ≡ drop (edge_at b i) b
  pub points : offsets 512 (take i (cells_of b)) ≡ take (2 * i) (drop 16 b)

-- the header of a page whose lowest cell begins at w, but for what the bytes say themselves
pub record Headed (kind : ℕ) (b : List ℕ) (w : ℕ) : Type 0 where
  pub first : slice_index_or b 0 0 ≡ kind
  pub second : slice_index_or b 1 0 ≡ 0
  pub lowest : word16 b 4 ≡ w
  pub seventh : slice_index_or b 6 0 ≡ 0
  pub eighth : slice_index_or b 7 0 ≡ 0
