use Rattle.std.proofs.Common.{map, Some, None, sym, ap, ◌∙◌, subst, arith}
use Rattle.std.proofs.lemmas.Bool.{false≢true}
use Rattle.std.proofs.lemmas.Bool.Decides.{Decides-eqb}
use Rattle.std.proofs.lemmas.Slice.Eq.{slice_eq-Decides}
use Rattle.page.specs.Kinds.{leaf_key, pair_of}
use Rattle.page.specs.Layout.{cells_of}
use Rattle.page.specs.Places.{up_to}
use Rattle.page.specs.Views.{FindsKey}
use Rattle.page.proofs.Finds.{up_to_pairs, none_found, found, missing}
use Rattle.page.proofs.Places.{up_to_length}
use Rattle.page.proofs.leaf.reads.CellPage+LeafCell.seek.Goals as goal

pub key-requires : goal.key-requires
key-requires c = omega (arith, up_to_length leaf_key c.args.key.now (cells_of c.cells-cells.result.page.now), c.place_above-above.ensures)

pub returns-in_default : goal.returns-in_default
returns-in_default c =
    let k = c.args.key.now in (
      subst (λ b. FindsKey (map pair_of (cells_of b)) k None) c.cells-cells.ensures.same
          (none_found k (cells_of c.cells-cells.result.page.now) c.cells-cells.ensures.rises c.place_above-above.result c.place_above-above.ensures c.in_default.ensures),
      c.place_above-above.ensures ∙ (ap (λ b. up_to leaf_key k (cells_of b)) c.cells-cells.ensures.same ∙ sym (up_to_pairs k (cells_of c.args.self.now.bytes))),
    )

pub returns-then-eq : goal.returns-then-eq
returns-then-eq c =
    let k = c.args.key.now in
    let xs = cells_of c.cells-cells.result.page.now in
    let s = slice_eq-Decides Decides-eqb _ _ _ c.eq.ensures in
    subst (λ b. FindsKey (map pair_of (cells_of b)) k (Some c.in-Some.i)) c.cells-cells.ensures.same
    (found k xs c.cells-cells.ensures.rises c.place_above-above.result c.place_above-above.ensures c.in-Some.i c.in-Some.ensures.0 c.in-Some.ensures.1 (sym c.key.ensures ∙ s.0 c.if-eq.true))

pub returns-else-eq : goal.returns-else-eq
returns-else-eq c =
    let k = c.args.key.now in
    let xs = cells_of c.cells-cells.result.page.now in
    let s = slice_eq-Decides Decides-eqb _ _ _ c.eq.ensures in (
      subst (λ b. FindsKey (map pair_of (cells_of b)) k None) c.cells-cells.ensures.same
          (missing k xs c.cells-cells.ensures.rises c.place_above-above.result c.place_above-above.ensures c.in-Some.i c.in-Some.ensures.0 c.in-Some.ensures.1 (λ q. false≢true (sym c.if-eq.false ∙ s.1 (c.key.ensures ∙ q)))),
      c.place_above-above.ensures ∙ (ap (λ b. up_to leaf_key k (cells_of b)) c.cells-cells.ensures.same ∙ sym (up_to_pairs k (cells_of c.args.self.now.bytes))),
    )
