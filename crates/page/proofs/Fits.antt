-- A leaf's list as one node or two.
use Rattle.std.proofs.Common.{◌≡◌, ℕ, ◌-◌, ◌<◌, ◌≤◌, true, cond, List, [], map, length, get_or, take, drop, sym, ap, ◌∙◌, arith}
use Rattle.std.specs.List.{between}
use Rattle.std.proofs.lemmas.List.{length-map}
use Rattle.std.proofs.lemmas.Slice.{between_to_end}
use Rattle.std.proofs.lemmas.Bool.{le-leb, lt-leb}
use Rattle.cuts.specs.Cuts.{fair}
use Rattle.cuts.specs.Keys.{separator}
use Rattle.cuts.specs.Nodes.{Pair, pair_cost}
use Rattle.tree.specs.Trees.{leaf_cost}
use Rattle.tree.specs.Edits.{one, two, first_key, last_key, cut_leaf, fit}
use Rattle.page.specs.Growths.{fitted}
use Rattle.page.specs.Goods.{leaf_costs}
use Rattle.page.specs.Kinds.{leaf_good, leaf_key, pair_of}
use Rattle.page.specs.Layout.{cost}
use Rattle.page.specs.Reading.{every}
use Rattle.page.specs.Splices.{CutsLeaf}
use Rattle.page.proofs.Items.{items_cost}
use Rattle.page.proofs.Leaves.{first_key_lem, last_key_lem}
use Rattle.page.proofs.Parts.{map_take, map_drop}

front : {X : Type 0} (i : ℕ) (ps : List X) → between 0 i ps ≡ take i ps
front i ps = ap (λ n. take n ps) (omega arith)

module _ (xs : List (List ℕ)) (g : every leaf_good xs ≡ true) where
  pub pairs_cost : leaf_cost (map pair_of xs) ≡ cost xs
  pairs_cost = items_cost pair_of pair_cost leaf_good leaf_costs xs g

  pub fits_one : (p : List Pair) → cost xs ≤ 496 → p ≡ map pair_of xs → one p ≡ fitted (map pair_of xs)
  unfolding fit
  fits_one p h q =
      ap one q
      ∙ sym (ap (λ b. cond b (one (map pair_of xs)) (cut_leaf (map pair_of xs))) (le-leb _ _ (omega (arith, pairs_cost))))

  pub fits_two : (i n : ℕ) (l r : List Pair) (s : List ℕ) → 496 < cost xs → CutsLeaf xs i → i ≡ fair pair_cost 0 (map pair_of xs) → n ≡ length xs
      → l ≡ between 0 i (map pair_of xs) → s ≡ separator (leaf_key (get_or xs (i - 1) [])) (leaf_key (get_or xs i [])) → r ≡ between i n (map pair_of xs)
      → two l s r ≡ fitted (map pair_of xs)
  unfolding fit
  fits_two i n l r s h c ei en el es er =
      let ps = map pair_of xs in
      let a : l ≡ take i ps = el ∙ front i ps in
      let b : r ≡ drop i ps = er ∙ between_to_end ps i n (omega (arith, length-map xs pair_of)) in
      let k : last_key (take i ps) ≡ leaf_key (get_or xs (i - 1) []) = ap last_key (sym (map_take pair_of i xs)) ∙ last_key_lem xs i c.some (omega (arith, c.within)) in
      let f : first_key (drop i ps) ≡ leaf_key (get_or xs i []) = ap first_key (sym (map_drop pair_of i xs)) ∙ first_key_lem xs i c.within in
      let d : s ≡ separator (last_key (take i ps)) (first_key (drop i ps)) = es ∙ sym (ap (λ x. separator x (first_key (drop i ps))) k ∙ ap (separator (leaf_key (get_or xs (i - 1) []))) f) in
      let t : fitted ps ≡ cut_leaf ps = ap (λ x. cond x (one ps) (cut_leaf ps)) (lt-leb _ _ (omega (arith, pairs_cost))) in
      let u : cut_leaf ps ≡ two (take i ps) (separator (last_key (take i ps)) (first_key (drop i ps))) (drop i ps) =
      ap (λ (m : ℕ). two (take m ps) (separator (last_key (take m ps)) (first_key (drop m ps))) (drop m ps)) (sym ei) in
      same_two a d b ∙ sym (t ∙ u)
    where
      same_two : {l l' r r' : List Pair} {s s' : List ℕ} → l ≡ l' → s ≡ s' → r ≡ r' → two l s r ≡ two l' s' r'
      same_two x y z = cc
