use Rattle.cache.proofs.Places.{finding_new}
use Rattle.cache.proofs.cache.Cache.slot_for.Goals as goal

pub returns-in-None : goal.returns-in-None
returns-in-None g c = finding_new c.args.page c.room.result c.in-None.ensures c.room.ensures
