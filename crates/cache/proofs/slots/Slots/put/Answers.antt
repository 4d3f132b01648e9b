use Rattle.std.proofs.Common.{sym, subst, arith}
use Rattle.cache.specs.Held.{Distinct}
use Rattle.cache.proofs.Copies.{within_pages, pages_put, distinct_set, replaces_put, sized_set}
use Rattle.cache.proofs.slots.Slots.put.Goals as goal

pub invariant_of-self-clause-distinct : goal.invariant_of-self-clause-distinct
invariant_of-self-clause-distinct c =
    subst Distinct (sym (pages_put _ _ _ _)) (distinct_set _ _ _ (within_pages _ _ (omega arith)) c.args.self.now.distinct c.requires)

pub invariant_of-self-clause-sized : goal.invariant_of-self-clause-sized
invariant_of-self-clause-sized c =
    sized_set _ _ _ _ (replaces_put _ _ _ _ (omega arith) c.args.self.now.distinct c.requires) (omega arith) c.args.self.now.sized

pub returns : goal.returns
returns c = record {
  slots = pages_put _ _ _ _;
  replaces = replaces_put _ _ _ _ (omega arith) c.args.self.now.distinct c.requires;
}
