use Rattle.trials.proofs.Discharged.{discharged}
use Rattle.trials.proofs.run_on_disk.Goals as goal

pub returns : goal.returns
returns g c = discharged c.args.disk _ _ c.run.result c.run.ensures
