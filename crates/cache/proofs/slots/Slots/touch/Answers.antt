use Rattle.std.proofs.Common.{sym, subst}
use Rattle.cache.specs.Held.{Distinct, Sized}
use Rattle.cache.proofs.Copies.{touched}
use Rattle.cache.proofs.slots.Slots.touch.Goals as goal

pub invariant_of-self-clause-distinct : goal.invariant_of-self-clause-distinct
invariant_of-self-clause-distinct c = subst Distinct (sym (touched _ _ _)) c.args.self.now.distinct

pub invariant_of-self-clause-sized : goal.invariant_of-self-clause-sized
invariant_of-self-clause-sized c = subst Sized (sym (touched c.args.self.now.all c.args.place.number c.saturating_add-self.result)) c.args.self.now.sized

pub returns : goal.returns
returns c = touched _ _ _
