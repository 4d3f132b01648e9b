use Rattle.std.proofs.Common.{rules, ◌≡◌, Decides, ◌∙◌, ap, true, arith}
use Rattle.std.specs.Bool.{then_some}
use Rattle.checksum.specs.Sealed.{is_sealed}
use Rattle.meta.specs.Layout.{meta_in}
use Rattle.meta.specs.Shape.{Shaped, Good}
use Rattle.meta.proofs.Judged.{read_judged}
use Rattle.meta.proofs.Meta.read.Goals as goal

pub returns : goal.returns
returns c =
    let b = c.args.bytes.now in
    let p = c.if-is_sealed.passes in
    let d : Decides p (Shaped b × (is_sealed b ≡ true) × Good c.args.at c.args.pages (meta_in b)) = search rules in
    c.then_some.ensures ∙ (ap (λ m. then_some p m) c.fields-meta.ensures ∙ read_judged c.args.at c.args.pages b (λ i. omega (arith, c.fits-bytes i)) (search rules) p d)
