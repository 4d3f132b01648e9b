use Rattle.std.proofs.Common.{arith}
use Rattle.std.proofs.lemmas.Grind.{common_steps}
use Rattle.cache.proofs.Copies.{full_if_least}
use Rattle.cache.proofs.slots.Slots.oldest.Goals as goal

pub returns : goal.returns
returns c =
    full_if_least c.args.self.now.all c.unwrap-number.result.0 (grind (arith, common_steps)) (λ k l. grind (arith, common_steps))
