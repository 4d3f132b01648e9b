use Rattle.std.proofs.Common.{arith}
use Rattle.page.proofs.Pages.{lowest_is}
use Rattle.page.proofs.draft.Draft.lowest.Goals as goal

pub returns : goal.returns
returns g c = let s = c.args.self.now.laid in omega (arith, lowest_is s, s.room)
