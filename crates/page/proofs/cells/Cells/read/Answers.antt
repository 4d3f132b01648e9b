use Rattle.std.proofs.Common.{sym, refl, ◌∙◌}
use Rattle.std.proofs.lemmas.Bool.{ne_eqb, eq-eqb}
use Rattle.page.proofs.Tested.{good_from}
use Rattle.page.proofs.Faults.{shape_kind, shape_layout, shape_order, shape_none}
use Rattle.page.proofs.cells.Cells.read.Goals as goal

pub returns-then-page-kind_byte : goal.returns-then-page-kind_byte
returns-then-page-kind_byte g c =
    record { fault = sym (shape_kind g.C.Cell.rules c.args.page.now (ne_eqb _ _ (λ e. c.if-page-kind_byte.true (e ∙ sym c.kind_byte.ensures)))); same = tt }

pub returns-then-not-is_laid_out : goal.returns-then-not-is_laid_out
returns-then-not-is_laid_out g c =
    record { fault = sym (shape_layout g.C.Cell.rules c.args.page.now (eq-eqb _ _ (c.if-page-kind_byte.false ∙ c.kind_byte.ensures)) (sym c.if-not-is_laid_out.ensures)); same = tt }

pub invariant_of-cells : goal.invariant_of-cells
invariant_of-cells g c =
    let p = good_from g.C.Cell.rules c.args.page.now (λ j. c.fits-page j) (sym c.if-not-is_laid_out.ensures) in
    record { laid = p.laid; goods = p.goods }

pub returns-then-not-is_rising : goal.returns-then-not-is_rising
returns-then-not-is_rising g c =
    record { fault = sym (shape_order g.C.Cell.rules c.args.page.now (eq-eqb _ _ (c.if-page-kind_byte.false ∙ c.kind_byte.ensures)) (sym c.if-not-is_laid_out.ensures) (sym c.if-not-is_rising.ensures)); same = tt }

pub returns : goal.returns
returns g c =
    record { fault = sym (shape_none g.C.Cell.rules c.args.page.now (eq-eqb _ _ (c.if-page-kind_byte.false ∙ c.kind_byte.ensures)) (sym c.if-not-is_laid_out.ensures) (sym c.if-not-is_rising.ensures)); same = refl }
