use Rattle.std.proofs.Common.{sym, ◌∙◌}
use Rattle.page.specs.Views.{branch_node}
use Rattle.walk.specs.Spots.{low_of, high_of}
use Rattle.walk.proofs.Slots.{slot_at}
use Rattle.walk.proofs.spot.Spot.child.Goals as goal

pub returns-clause-slot : goal.returns-clause-slot
returns-clause-slot c =
    let b = branch_node c.args.branch.now in
    slot_at (low_of c.args.self.now) (high_of c.args.self.now) b.first b.rest c.args.i _ _ _ (sym c.unwrap.ensures ∙ c.child.ensures) c.low_of.ensures c.high_of.ensures
