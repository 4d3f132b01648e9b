-- One pair out of the bytes of a leaf, and where it lies.
use Rattle.std.specs.Prelude.{◌≡◌, ℕ, ◌+◌, cond, List, length, take, drop, is_some, Some, None, Option, nat_le}
use Rattle.page.specs.Kinds.{leaf_rules}
use Rattle.page.specs.Layout.{edge_at}
use Rattle.page.specs.Reading.{shape_fault}
use Rattle.page.specs.Views.{pairs_in, key_at, value_at}
use Rattle.page.specs.declared.leaf.pair.PairParts.{PairParts}

-- a pair, and where its key and its value begin in the page
pub record PairSeen : Type 0 where
  pub key : List ℕ
  pub value : List ℕ
  pub key_offset : ℕ
  pub value_offset : ℕ

abbrev pub seen : PairParts → PairSeen
seen p = record {
  key = p.key.now;
  value = p.value.now;
  key_offset = p.key_offset;
  value_offset = p.value_offset;
}

-- pair `cell` of the leaf that the bytes are, with whatever checksum; none, if they are no leaf or have no such pair.
-- Two bytes of lengths stand before the key, and the value follows the key.
abbrev pub pair_seen : ℕ → List ℕ → Option PairSeen
pair_seen cell b =
    cond (is_some (shape_fault leaf_rules b)) None
    (cond (nat_le (length (pairs_in b)) cell) None
    (Some (record {
      key = key_at (pairs_in b) cell;
      value = value_at (pairs_in b) cell;
      key_offset = edge_at b (cell + 1) + 2;
      value_offset = edge_at b (cell + 1) + 2 + length (key_at (pairs_in b) cell);
    })))

-- the key and the value are the bytes that lie there
abbrev pub LiesIn : List ℕ → Option PairParts → Type 0
LiesIn b None = Unit
LiesIn b (Some p) =
    (p.key.now ≡ take (length p.key.now) (drop p.key_offset b)) × (p.value.now ≡ take (length p.value.now) (drop p.value_offset b))
