use Rattle.cache.specs.Inner.{FlushedTo}
use Rattle.cache.proofs.cache.Cache.flush_all.Given as goal

abbrev pub invariant-loop-number : goal.invariant-loop-number
invariant-loop-number g l = FlushedTo g.D.Reader l.initial.self l.number l.self
