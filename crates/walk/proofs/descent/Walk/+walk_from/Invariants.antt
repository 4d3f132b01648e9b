use Rattle.std.proofs.Common.{◌≡◌, drop}
use Rattle.page.specs.Views.{branch_node}
use Rattle.paged.specs.Walk.{slots_of}
use Rattle.walk.specs.Spots.{low_of, high_of}
use Rattle.walk.proofs.Steps.{Going, below}
use Rattle.walk.proofs.descent.Walk.+walk_from.Given as goal

abbrev pub decreases-walk_from : goal.decreases-walk_from
decreases-walk_from g l = l.height

abbrev pub invariant-loop-i : goal.invariant-loop-i
invariant-loop-i g l =
    let all = slots_of (low_of l.at) (high_of l.at) (branch_node l.branch) in
    record {
      same_reader : l.self.reader.ghost_name ≡ l.initial.self.reader.ghost_name;
      same_size : l.self.size ≡ l.initial.self.size;
      going : Going (g.R.Reader.past l.initial.self.reader.now) (g.R.Reader.medium l.initial.self.reader.now) (g.R.Reader.past l.self.reader.now) (g.R.Reader.medium l.self.reader.now)
          l.initial.self.size l.at.page (below l.initial.self.size l.height) all (drop l.i all) l.initial.self.met.marked l.self.met.marked l.pairs;
    }
