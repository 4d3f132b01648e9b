-- The list of cells that a splice is.
use Rattle.std.specs.Prelude.{ℕ, List}
use Rattle.page.specs.Splices.{loose, parts}
use Rattle.page.specs.declared.cell.Cell.{Ghosts}
use Rattle.page.specs.declared.splice.Splice.{Splice}

abbrev pub cells_in : {C : Type 0} {g : Ghosts C} → Splice C g → List (List ℕ)
cells_in s = parts s.front.page.now s.keep (loose s.middle) s.back.page.now s.skip
