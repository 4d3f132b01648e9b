use Rattle.std.proofs.Common.{[], ◌∷◌, map, refl, ap, ◌∙◌, arith}
use Rattle.std.proofs.lemmas.List.{length-map}
use Rattle.page.specs.Goods.{leaf_small}
use Rattle.page.specs.Growths.{fitted}
use Rattle.page.specs.Kinds.{leaf_rules, pair_of}
use Rattle.page.specs.Layout.{cost, cells_of}
use Rattle.page.proofs.Children.{page_parts}
use Rattle.page.proofs.OnePage.{rises_again, cost_kept}
use Rattle.page.proofs.Pages.{cost_one}
use Rattle.page.proofs.Puts.{cells_as_pairs}
use Rattle.page.proofs.leaf.edits.CellPage+LeafCell.with_cell.Goals as goal

pub splice-requires : goal.splice-requires
splice-requires c =
    let b = c.args.cell.bytes.now in
    let xs = cells_of c.args.self.now.bytes in
    let n = length-map xs pair_of in
    record {
      keep = omega (arith, n, c.requires.keep, c.requires.skip);
      skip = omega (arith, n, c.requires.skip);
      rises = rises_again xs (b ∷ []) c.args.keep c.args.skip (pair_of b ∷ []) refl c.requires.rises;
    }

pub leaves-requires : goal.leaves-requires
leaves-requires c =
    let b = c.args.cell.bytes.now in
    let p = page_parts leaf_rules c.args.self.now.bytes c.args.self.now.sound in
    omega (
      arith,
      ap cost c.splice.ensures,
      cost_kept (cells_of c.args.self.now.bytes) (b ∷ []) c.args.keep c.args.skip c.requires.keep,
      cost_one b,
      leaf_small b c.args.cell.good,
      p.0.room,
    )

pub returns : goal.returns
returns c =
    let b = c.args.cell.bytes.now in
    c.leaves.ensures
    ∙ ap fitted (ap (map pair_of) c.splice.ensures ∙ cells_as_pairs (cells_of c.args.self.now.bytes) (b ∷ []) (pair_of b ∷ []) c.args.keep c.args.skip refl)
