use Rattle.std.proofs.Common.{◌≡◌, true, length, take, sym, refl, ap, ◌∙◌, arith, rules}
use Rattle.std.proofs.lemmas.List.{take_all}
use Rattle.std.proofs.lemmas.Bool.{false≢true}
use Rattle.page.specs.Layout.{cells_of, edge_at, Laid}
use Rattle.page.specs.Reading.{every}
use Rattle.page.proofs.Tested.{not_laid, layout_is}
use Rattle.page.proofs.Wholes.{whole, few_cells, headed_from, zero_from}
use Rattle.page.proofs.cells.tests.is_laid_out.Goals as goal

pub returns-then-n-gt248 : goal.returns-then-n-gt248
returns-then-n-gt248 g c =
    sym (not_laid g.C.Cell.rules c.args.page.now (λ j. c.fits-page j) (λ p.
    let f = few_cells g.C.Cell.rules.kind c.args.page.now p.laid in omega arith))

pub returns-then-not-has_header : goal.returns-then-not-has_header
returns-then-not-has_header g c =
    let page = c.args.page.now in
    let e : c.edge-lowest.result ≡ edge_at page (length (cells_of page)) = c.edge-lowest.ensures ∙ ap (edge_at page) c.count_of-n.ensures in
    sym (not_laid g.C.Cell.rules page (λ j. c.fits-page j) (λ p.
    false≢true (c.if-not-has_header.ensures.1 (headed_from g.C.Cell.rules.kind page p.laid c.edge-lowest.result e))))

pub returns-then-not-is_zero : goal.returns-then-not-is_zero
returns-then-not-is_zero g c =
    let page = c.args.page.now in
    let e : c.edge-lowest.result ≡ edge_at page (length (cells_of page)) = c.edge-lowest.ensures ∙ ap (edge_at page) c.count_of-n.ensures in
    sym (not_laid g.C.Cell.rules page (λ j. c.fits-page j) (λ p.
    false≢true (c.if-not-is_zero.ensures.1 (λ k l h. zero_from g.C.Cell.rules.kind page p.laid c.count_of-n.result c.edge-lowest.result k c.count_of-n.ensures e l h))))

pub returns : goal.returns
returns g c =
    let page = c.args.page.now in
    let len : length page ≡ 512 = search rules in
    let p = c.if-not-is_packed.ensures in
    let t : take c.count_of-n.result (cells_of page) ≡ cells_of page = take_all _ _ (omega arith) in
    let s : Laid g.C.Cell.rules.kind page =
    whole g.C.Cell.rules page c.count_of-n.result c.edge-lowest.result (λ j. c.fits-page j) len c.count_of-n.ensures c.edge-lowest.ensures p
    (c.if-not-has_header.ensures.0 refl) (c.if-not-is_zero.ensures.0 refl) in
    let e : every g.C.Cell.rules.good (cells_of page) ≡ true = sym (ap (every g.C.Cell.rules.good) t) ∙ p.goods in
    c.allows_leftmost.ensures ∙ (ap g.C.Cell.rules.leftmost c.leftmost_of.ensures ∙ sym (layout_is g.C.Cell.rules page (λ j. c.fits-page j) s e))
