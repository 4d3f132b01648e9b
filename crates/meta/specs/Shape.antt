-- The parts of the meta test as facts. Only inner functions speak of them.
use Rattle.std.specs.Prelude.{◌≡◌, ℕ, ◌%◌, ◌<◌, ◌≤◌, List, slice_index, slice_index_or}
use Rattle.checksum.specs.Kinds.{kind_byte}
use Rattle.checksum.specs.declared.kind.Kind.TheVariants.{Meta as KindMeta}
use Rattle.meta.specs.declared.Meta.{Meta}

-- the bytes that hold no number are those of a meta page
pub record Shaped (b : List ℕ) : Type 0 where
  pub first : slice_index_or b 0 0 ≡ kind_byte KindMeta
  pub second : slice_index_or b 1 0 ≡ 1
  pub third : slice_index_or b 2 0 ≡ 0
  pub fourth : slice_index_or b 3 0 ≡ 0
  pub rest : (k : ℕ) → 29 ≤ k → k < 512 → slice_index b k ≡ 0

-- the numbers are such as a meta page in this place may say
pub record Good (at N : ℕ) (m : Meta) : Type 0 where
  pub pages : m.pages ≡ N
  pub low : 2 ≤ m.root
  pub high : m.root < N
  pub some : 1 ≤ m.levels
  pub few : m.levels ≤ 7
  pub parity : m.commit % 2 ≡ at
