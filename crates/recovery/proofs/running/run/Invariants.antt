use Rattle.store.specs.Snapshots.{snapshot}
use Rattle.recovery.proofs.Scripts.{Answered}
use Rattle.recovery.proofs.running.run.Given as goal

abbrev pub invariant-loop-entry : goal.invariant-loop-entry
invariant-loop-entry g l =
    Answered (g.D.Reader.past l.fn.device) (g.D.Reader.medium l.fn.device) (g.D.Reader.past l.store.device) (snapshot g.D.Reader l.store) l.initial.script l.script l.entry-index
