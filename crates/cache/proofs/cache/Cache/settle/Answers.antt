use Rattle.std.proofs.Common.{refl, rules}
use Rattle.device.specs.History.{did_sync}
use Rattle.cache.proofs.Steps.{Passes}
use Rattle.cache.proofs.Synced.{sync_done, syncs_done}
use Rattle.cache.proofs.cache.Cache.settle.Goals as goal

pub returns : goal.returns
returns g c =
    let f = c.in_ok-flush_all.ensures in
    let p : Passes g.D.Reader c.flush_all.new.self (did_sync c.ask.result) c.ask.result c.ask.new.self = search rules in
    record {
      meaning = sync_done c.ask.result f.goes (f.cleans refl) p;
      exact = syncs_done c.ask.result f p;
    }
