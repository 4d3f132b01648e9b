-- The list of cells that an edit leaves.
use Rattle.std.specs.Prelude.{◌≡◌, ℕ, ◌+◌, ◌<◌, ◌≤◌, true, List, ◌++◌, length, take, drop, Option}
use Rattle.std.specs.List.{between}
use Rattle.std.specs.Option.{option_map, option_to_list}
use Rattle.page.specs.Kinds.{Rules}
use Rattle.page.specs.Layout.{cost, cells_of}
use Rattle.page.specs.Reading.{rising}
use Rattle.page.specs.declared.body.Body.{Body}
use Rattle.page.specs.declared.cell.Cell.{Ghosts}

abbrev pub loose : {C : Type 0} {g : Ghosts C} → Option (Body C g) → List (List ℕ)
loose m = option_to_list (option_map (λ b. b.bytes.now) m)

-- the first cells of the page a, the cells m, and the cells of the page b from one on
abbrev pub parts : List ℕ → ℕ → List (List ℕ) → List ℕ → ℕ → List (List ℕ)
parts a keep m b skip = take keep (cells_of a) ++ (m ++ drop skip (cells_of b))

-- the pages have so many cells, and the keys of all rise
pub record Spliced (k : Rules) (a : List ℕ) (first : ℕ) (m : List (List ℕ)) (b : List ℕ) (from : ℕ) : Type 0 where
  pub keep : first ≤ length (cells_of a)
  pub skip : from ≤ length (cells_of b)
  pub rises : rising k.key (parts a first m b from) ≡ true

-- what one cell costs
abbrev pub body_cost : List ℕ → ℕ
body_cost b = 2 + length b

-- a cut at i of a leaf's list: both parts fit a page, and neither is empty
pub record CutsLeaf (xs : List (List ℕ)) (i : ℕ) : Type 0 where
  pub some : 1 ≤ i
  pub within : i < length xs
  pub left : cost (between 0 i xs) ≤ 496
  pub right : cost (between i (length xs) xs) ≤ 496
