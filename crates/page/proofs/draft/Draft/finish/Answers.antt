use Rattle.std.proofs.Common.{◌≡◌, ℕ, ◌^◌, ◌<◌, List, sym, ap, ◌∙◌, subst, arith}
use Rattle.checksum.specs.Crc.{crc_of}
use Rattle.checksum.specs.Sealed.{checksum_of}
use Rattle.page.specs.Layout.{Shows, cells_of, left_of, sum_of, laid_out, page_of}
use Rattle.page.proofs.Pages.{leftmost_is, cells_are}
use Rattle.page.proofs.Sealing.{seal_shows, page_shows, checksum_laid}
use Rattle.page.proofs.Sounds.{page_sound}
use Rattle.page.proofs.draft.Draft.finish.Given as given
use Rattle.page.proofs.draft.Draft.finish.Goals as goal
use Rattle.page.proofs.draft.Draft.finish.Goals.{After-seal}

sealed_is : (g : given.Over) (c : After-seal g) → c.seal.new.page ≡ page_of g.C.Cell.rules.kind (left_of c.args.self.bytes) (cells_of c.args.self.bytes)
sealed_is g c = c.seal.ensures.after ∙ seal_shows c.args.self.laid

shows : (g : given.Over) (c : After-seal g) → Shows g.C.Cell.rules.kind c.seal.new.page (left_of c.args.self.bytes) (crc_of (laid_out g.C.Cell.rules.kind (left_of c.args.self.bytes) 0 (cells_of c.args.self.bytes))) (cells_of c.args.self.bytes)
shows g c =
    let k = g.C.Cell.rules.kind in
    let b = c.args.self.bytes in
    let s = c.args.self.laid in
    let f : checksum_of b ≡ crc_of (laid_out k (left_of b) 0 (cells_of b)) = ap checksum_of s.is ∙ checksum_laid k (left_of b) (cells_of b) (sum_of b) in
    let w : crc_of (laid_out k (left_of b) 0 (cells_of b)) < 2 ^ 32 = omega (arith, f, c.seal.ensures.word) in
    subst (λ (p : List ℕ). Shows k p (left_of b) (crc_of (laid_out k (left_of b) 0 (cells_of b))) (cells_of b)) (sym (sealed_is g c)) (page_shows k (left_of b) (cells_of b) s.room s.child w)

pub invariant_of-result : goal.invariant_of-result
invariant_of-result g c =
    let t = (goal.at.invariant_of-result g c).After-seal in
    let b = c.args.self.bytes in
    record { sound = page_sound g.C.Cell.rules (left_of b) _ (cells_of b) _ (sealed_is g t) (shows g t) c.args.self.goods c.requires.leftmost c.requires.rises }

pub returns : goal.returns
returns g c = let s = shows g (goal.at.returns g c).After-seal in record { left = leftmost_is s; cells = cells_are s }
