use Rattle.std.proofs.Common.{◌≡◌, ℕ, ◌-◌, ◌<◌, ◌≤◌, true, false, [], length, get_or}
use Rattle.cuts.specs.Keys.{key<}
use Rattle.page.specs.Layout.{cells_of}
use Rattle.page.proofs.cells.Cells.place_above.Given as goal

abbrev pub invariant-loop-low : goal.invariant-loop-low
invariant-loop-low g l =
    (l.low ≤ l.high)
    × (l.high ≤ length (cells_of l.self.page.now))
    × ((j : ℕ) → j < l.low → key< l.sought (g.C.Cell.rules.key (get_or (cells_of l.self.page.now) j [])) ≡ false)
    × ((j : ℕ) → l.high ≤ j → j < length (cells_of l.self.page.now) → key< l.sought (g.C.Cell.rules.key (get_or (cells_of l.self.page.now) j [])) ≡ true)

abbrev pub decreases-loop-low : goal.decreases-loop-low
decreases-loop-low g l = l.high - l.low
