-- Branches by the number of the child, and the order of their separators.
use Rattle.std.specs.Prelude.{◌≡◌, ℕ, ◌+◌, ◌<◌, ◌≤◌, Bool, true, cond, ◌&&◌, List, [], ◌∷◌, length, Some, None, Option, nat_le, nat_lt}
use Rattle.std.specs.List.{between}
use Rattle.cuts.specs.Keys.{key<}
use Rattle.cuts.specs.Nodes.{Cell, Branch}
use Rattle.tree.specs.Places.{separator_at}
use Rattle.tree.specs.Search.{child_at}
use Rattle.page.specs.Kinds.{branch_good, branch_key}
use Rattle.page.specs.Layout.{Laid, cost, cells_of}
use Rattle.page.specs.Reading.{every, rising}

-- child i, if there is one; child 0 is the leftmost one
abbrev pub child_of : ℕ → Branch ℕ → Option ℕ
child_of i b = cond (nat_le i (length b.rest)) (Some (child_at i b.first b.rest)) None

-- the separator after child i, if there is one
abbrev pub separator_of : ℕ → Branch ℕ → Option (List ℕ)
separator_of i b = cond (nat_lt i (length b.rest)) (Some (separator_at i b.rest)) None

-- each separator is below the next
unfoldable pub ascending : List (Cell ℕ) → Bool
ascending [] = true
ascending (c ∷ []) = true
ascending (c ∷ d ∷ cs) = key< c.separator d.separator && ascending (d ∷ cs)

-- the last separator is below s, or there is none
unfoldable pub ends_below : List (Cell ℕ) → List ℕ → Bool
ends_below [] s = true
ends_below (c ∷ []) s = key< c.separator s
ends_below (c ∷ d ∷ cs) s = ends_below (d ∷ cs) s

-- the first separator is above s, or there is none
unfoldable pub starts_above : List ℕ → List (Cell ℕ) → Bool
starts_above s [] = true
starts_above s (c ∷ cs) = key< s c.separator

-- a cut of a branch's list that gives up cell i: both parts fit a page
pub record CutsBranch (xs : List (List ℕ)) (i : ℕ) : Type 0 where
  pub within : i < length xs
  pub left : cost (between 0 i xs) ≤ 496
  pub right : cost (between (i + 1) (length xs) xs) ≤ 496

-- what reading finds of a branch's bytes
pub record BranchBytes (b : List ℕ) : Type 0 where
  pub laid : Laid 2 b
  pub goods : every branch_good (cells_of b) ≡ true
  pub rises : rising branch_key (cells_of b) ≡ true
