use Rattle.search.proofs.Tree.+find_down.Given as goal

abbrev pub decreases-find_down : goal.decreases-find_down
decreases-find_down g l = l.self.height
