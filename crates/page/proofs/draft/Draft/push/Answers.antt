use Rattle.std.proofs.Common.{◌-◌, [], ◌∷◌, ◌++◌, length, refl, ap, ◌∙◌, arith}
use Rattle.std.proofs.lemmas.Bool.{and_from}
use Rattle.page.specs.Layout.{Shows, cells_of, left_of, sum_of}
use Rattle.page.specs.Reading.{every}
use Rattle.page.proofs.Pages.{append_page, cost_append, cost_one, laid_from, leftmost_is, cells_are}
use Rattle.page.proofs.Tested.{every_append}
use Rattle.page.proofs.draft.Draft.push.Given as given
use Rattle.page.proofs.draft.Draft.push.Goals as goal
use Rattle.page.proofs.draft.Draft.push.Goals.{After-write16-3}

shows : (g : given.Over) (c : After-write16-3 g)
    → Shows g.C.Cell.rules.kind c.write16-3.new.page (left_of c.args.self.now.bytes) (sum_of c.args.self.now.bytes) (cells_of c.args.self.now.bytes ++ c.args.body.bytes.now ∷ [])
shows g c =
    let page = c.args.self.now.bytes in
    let b = c.args.body.bytes.now in
    let s = c.args.self.now.laid in
    let p = s.is in
    let a = append_page g.C.Cell.rules.kind (left_of page) (sum_of page) (cells_of page) b (c.lowest.result - length b) c.requires (omega arith) in
    record { room = omega (arith, cost_append (cells_of page) (b ∷ []), cost_one b); child = s.child; word = s.word; is = cc }

pub invariant_of-self : goal.invariant_of-self
invariant_of-self g c =
    let s = shows g (goal.at.invariant_of-self g c).After-write16-3 in
    let good = g.C.Cell.rules.good in
    let b = c.args.body in
    let more = every_append good (cells_of c.args.self.now.bytes) (b.bytes.now ∷ []) c.args.self.now.goods (and_from _ _ b.good refl) in
    record { laid = laid_from s; goods = ap (every good) (cells_are s) ∙ more }

pub returns : goal.returns
returns g c = let s = shows g (goal.at.returns g c).After-write16-3 in record { left = leftmost_is s; cells = cells_are s }
