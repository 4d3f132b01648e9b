use Rattle.std.proofs.Common.{◌≡◌, ◌-◌, [], get_or, drop}
use Rattle.page.specs.Layout.{cells_of}
use Rattle.page.specs.Reading.{rising}
use Rattle.page.proofs.cells.Cells.is_rising.Given as goal

-- what is left to look at decides, and the key before it is at hand
abbrev pub invariant-loop-i : goal.invariant-loop-i
invariant-loop-i g l =
    (rising g.C.Cell.rules.key (drop (l.i - 1) (cells_of l.self.page.now)) ≡ rising g.C.Cell.rules.key (cells_of l.self.page.now))
    × (l.before ≡ g.C.Cell.rules.key (get_or (cells_of l.self.page.now) (l.i - 1) []))
