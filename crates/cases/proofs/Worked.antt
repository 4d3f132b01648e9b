-- The worked examples.
use Rattle.std.proofs.Common.{◌≡◌, ◌+◌, cond, leb, List, [], ◌∷◌, ◌++◌, refl, ap, ◌∙◌, arith}
use Rattle.cuts.specs.Keys.{separator}
use Rattle.cuts.specs.Nodes.{Pair, pair_cost}
use Rattle.cuts.specs.Cuts.{total, fair}
use Rattle.tree.specs.Edits.{one, cut_leaf, fit, join}
use Rattle.page.specs.Layout.{page_of, laid_out, offsets, bodies}
use Rattle.meta.specs.Laws.{SixAndSevenGivesSeven, SevenIsNotForPageZero}
use Rattle.cases.specs.Examples.{Examples, Joined}

total_append : (l r : List Pair) → total pair_cost (l ++ r) ≡ total pair_cost l + total pair_cost r
unfolding total
total_append [] r = omega arith
total_append (p ∷ l) r = let h = total_append l r in omega (arith, h)

joined_to_one_lem : Joined 123 373 (λ l r s. join 0 l s r ≡ one (l ++ r))
unfolding fit
joined_to_one_lem l r s a b =
    let e : total pair_cost (l ++ r) ≡ 496 = total_append l r ∙ omega (arith, a, b) in
    ap (λ n. cond (leb n 496) (one (l ++ r)) (cut_leaf (l ++ r))) e

joined_and_cut_lem : Joined 123 374 (λ l r s. join 0 l s r ≡ cut_leaf (l ++ r))
unfolding fit
joined_and_cut_lem l r s a b =
    let e : total pair_cost (l ++ r) ≡ 497 = total_append l r ∙ omega (arith, a, b) in
    ap (λ n. cond (leb n 496) (one (l ++ r)) (cut_leaf (l ++ r))) e

pub examples : SixAndSevenGivesSeven → SevenIsNotForPageZero → Examples
unfolding separator total fair page_of laid_out offsets bodies
examples m n = record {
  numbers = refl;
  prefixed = refl;
  words = refl;
  empty_leaf = refl;
  offset = refl;
  body = refl;
  three_large = refl;
  joined_to_one = joined_to_one_lem;
  joined_and_cut = joined_and_cut_lem;
  newest = m;
  misplaced = n;
}
