use Rattle.std.proofs.Common.{[], ap, arith}
use Rattle.page.specs.Layout.{bodies, Shows}
use Rattle.page.specs.Reading.{every}
use Rattle.page.proofs.Pages.{start_page, laid_from, leftmost_is, cells_are}
use Rattle.page.proofs.draft.Draft.new.Given as given
use Rattle.page.proofs.draft.Draft.new.Goals as goal
use Rattle.page.proofs.draft.Draft.new.Goals.{After-put}

shows : (g : given.Over) (c : After-put g) → Shows g.C.Cell.rules.kind c.put.new.page c.args.leftmost 0 []
unfolding bodies
shows g c =
    let p = start_page g.C.Cell.rules.kind c.args.leftmost in
    record { room = omega arith; child = omega arith; word = omega arith; is = cc }

pub invariant_of-result : goal.invariant_of-result
invariant_of-result g c =
    let s = shows g (goal.at.invariant_of-result g c).After-put in
    record { laid = laid_from s; goods = ap (every g.C.Cell.rules.good) (cells_are s) }

pub returns : goal.returns
returns g c = let s = shows g (goal.at.returns g c).After-put in record { left = leftmost_is s; cells = cells_are s }
