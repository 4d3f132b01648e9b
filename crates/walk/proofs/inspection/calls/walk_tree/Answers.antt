use Rattle.std.proofs.Common.{refl, arith, rules}
use Rattle.paged.specs.Walk.{elem}
use Rattle.walk.proofs.Trees.{tree_walked}
use Rattle.walk.proofs.inspection.calls.walk_tree.Goals as goal

pub walk_from-requires-clause-unmet : goal.walk_from-requires-clause-unmet
unfolding elem
walk_from-requires-clause-unmet g c = c.new.ensures c.args.meta.now.root (omega (arith, c.requires.rooted.high, c.requires.small))

pub returns : goal.returns
returns g c =
    tree_walked g.R.Reader.past g.R.Reader.medium _ _ c.walk_from.new.self.reader.now _ (search rules) c.args.size c.args.meta.now _ _ c.new.ensures _ c.walk_from.new.self.met refl c.if-pairs-meta.false c.in_ok-pairs.ensures.walks
