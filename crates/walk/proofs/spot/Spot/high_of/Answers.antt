use Rattle.std.proofs.Common.{ap, ◌∙◌}
use Rattle.std.specs.Option.{option_map}
use Rattle.page.specs.Views.{branch_node}
use Rattle.walk.specs.Spots.{bound_of}
use Rattle.walk.proofs.Slots.{high_or}
use Rattle.walk.proofs.spot.Spot.high_of.Goals as goal

pub returns : goal.returns
returns c =
    ap (λ o. bound_of (option_map (λ x. x.now) o)) c.or.ensures
    ∙ high_or (λ x. x.now) c.separator.result c.args.self.now.high (branch_node c.args.branch.now).rest c.args.i c.separator.ensures
