-- What holds of pages of cells: each list of cells has exactly one page that reading accepts.
use Rattle.std.specs.Prelude.{◌≡◌, ℕ, ◌^◌, ◌<◌, ◌≤◌, true, List, None, slice_index}
use Rattle.std.specs.List.{AllByRecursion}
use Rattle.page.specs.Kinds.{Rules}
use Rattle.page.specs.Layout.{cost, cells_of, left_of, page_of}
use Rattle.page.specs.Reading.{every, rising, first_fault}

-- what a page of this kind may hold: good cells with rising keys that are not too many, and a leftmost child
pub record Fits (k : Rules) (leftmost : ℕ) (cells : List (List ℕ)) : Type 0 where
  pub goods : every k.good cells ≡ true
  pub rises : rising k.key cells ≡ true
  pub room : cost cells ≤ 496
  pub child : k.leftmost leftmost ≡ true

abbrev pub Byte : ℕ → Type 0
Byte x = x < 2 ^ 8

-- the page of such a list is accepted, and says this list
abbrev pub PagesReadBack : Type 0
PagesReadBack = (k : Rules) (leftmost : ℕ) (cells : List (List ℕ))
    → Byte k.kind → leftmost < 2 ^ 32 → AllByRecursion (AllByRecursion Byte) cells → Fits k leftmost cells
    → (first_fault k (page_of k.kind leftmost cells) ≡ None)
    × (left_of (page_of k.kind leftmost cells) ≡ leftmost)
    × (cells_of (page_of k.kind leftmost cells) ≡ cells)

-- and no other bytes are: what is accepted is the page of the list that it says
abbrev pub NothingElseIsRead : Type 0
NothingElseIsRead = (k : Rules) (b : List ℕ) → ((i : ℕ) → Byte (slice_index b i)) → first_fault k b ≡ None
    → (b ≡ page_of k.kind (left_of b) (cells_of b)) × Fits k (left_of b) (cells_of b)
