use Rattle.std.proofs.Common.{arith}
use Rattle.store.specs.Snapshots.{snapshot}
use Rattle.recovery.proofs.Runs.{going_new}
use Rattle.recovery.proofs.Scripts.{answered_none, answered_more, run_goes}
use Rattle.recovery.proofs.running.run.Goals as goal

pub loop-entry-init : goal.loop-entry-init
loop-entry-init g c =
    let n = c.new-store in
    answered_none (snapshot g.D.Reader n.result) c.args.script.now (going_new g.D.Reader.past g.D.Reader.medium _ n.result n.ensures.device n.ensures.shut n.ensures.forgotten)

pub loop-entry-preserved : goal.loop-entry-preserved
loop-entry-preserved g c =
    let l = c.loop-entry in
    answered_more _ _ _ l.script l.entry-index c.entry-item.result _ (omega arith) l.invariant c.act.ensures

pub returns : goal.returns
returns g c =
    let l = c.loop-entry in
    run_goes g.D.Reader.past g.D.Reader.medium c.args.device l.store c.args.script.now l.script l.entry-index c.loop-entry-test.false l.invariant
