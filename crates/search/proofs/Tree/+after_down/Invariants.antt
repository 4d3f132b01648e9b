use Rattle.search.proofs.Tree.+after_down.Given as goal

abbrev pub decreases-after_down : goal.decreases-after_down
decreases-after_down g l = l.self.height
