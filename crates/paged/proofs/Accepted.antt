-- What a page has that reading accepts.
use Rattle.std.proofs.Common.{◌≡◌, ℕ, ◌+◌, ◌≤◌, true, not, List, [], ◌∷◌, map, length, get_or, drop, is_some, Some, None, Option, sym, refl, ◌∙◌, arith}
use Rattle.std.specs.List.{AllByRecursion}
use Rattle.std.proofs.lemmas.List.{length-drop, length-take-le, length-map}
use Rattle.std.proofs.lemmas.Bool.{and_parts, false≢true}
use Rattle.cuts.specs.Nodes.{PairFits, CellFits, pair_cost, cell_cost}
use Rattle.tree.specs.Maps.{Rising}
use Rattle.tree.specs.Trees.{leaf_cost, branch_cost}
use Rattle.page.specs.Branches.{ascending}
use Rattle.page.specs.Kinds.{Rules, leaf_rules, branch_rules, leaf_good, branch_good, pair_of, cell_of}
use Rattle.page.specs.Layout.{cost, cells_of}
use Rattle.page.specs.Reading.{every, rising, first_fault, sound}
use Rattle.page.specs.Views.{pairs_in, branch_in}
use Rattle.page.specs.declared.fault.Cause.{Cause}
use Rattle.page.specs.CellPages.{LeafPage}
use Rattle.page.proofs.Children.{page_parts}
use Rattle.page.specs.Goods.{leaf_parts_of, leaf_costs, branch_costs}
use Rattle.page.proofs.Items.{items_cost}
use Rattle.page.proofs.Branches.{key_fits}
use Rattle.page.proofs.BranchOrders.{rising_ascending}
use Rattle.page.proofs.Puts.{rising_pairs}
use Rattle.page.proofs.Sounds.{sound_none}

-- what reading accepts has no fault
pub none_of : (k : Rules) (b : List ℕ) → sound k b ≡ true → first_fault k b ≡ None
unfolding sound
none_of k b h = by (first_fault k b) h
  where
    by : (o : Option Cause) → not (is_some o) ≡ true → o ≡ None
    by None e = refl
    by (Some c) e = absurd (false≢true e)

-- the cells are good, they fit the page, and their keys rise
record Cells (k : Rules) (b : List ℕ) : Type 0 where
  goods : every k.good (cells_of b) ≡ true
  room : cost (cells_of b) ≤ 496
  rises : rising k.key (cells_of b) ≡ true

cells_of_lem : (k : Rules) (b : List ℕ) → first_fault k b ≡ None → Cells k b
cells_of_lem k b h = let p = page_parts k b (sound_none k b h) in record { goods = p.1; room = p.0.room; rises = p.2 }

pair_fits : (b : List ℕ) → leaf_good b ≡ true → PairFits (pair_of b)
pair_fits b h =
    let p = leaf_parts_of b h in
    let k = length-take-le (get_or b 0 0) (drop 2 b) (omega (arith, length-drop 2 b, p.long)) in
    ((omega (arith, k, p.some), omega (arith, k, p.key)), omega (arith, length-drop (2 + get_or b 0 0) b, p.long, p.value))

pairs_fit : (xs : List (List ℕ)) → every leaf_good xs ≡ true → AllByRecursion PairFits (map pair_of xs)
pairs_fit [] h = tt
pairs_fit (x ∷ xs) h = let p = and_parts _ _ h in (pair_fits x p.0, pairs_fit xs p.1)

cells_fit : (xs : List (List ℕ)) → every branch_good xs ≡ true → AllByRecursion CellFits (map cell_of xs)
cells_fit [] h = tt
cells_fit (x ∷ xs) h = let p = and_parts _ _ h in (key_fits x p.0, cells_fit xs p.1)

pub record LeafHas (b : List ℕ) : Type 0 where
  pub rises : Rising (pairs_in b)
  pub fit : AllByRecursion PairFits (pairs_in b)
  pub light : leaf_cost (pairs_in b) ≤ 496
  pub few : length (pairs_in b) ≤ 248

pub leaf_has : (b : List ℕ) → first_fault leaf_rules b ≡ None → LeafHas b
leaf_has b h =
    let c = cells_of_lem leaf_rules b h in
    record {
      rises = rising_pairs (cells_of b) c.rises;
      fit = pairs_fit (cells_of b) c.goods;
      light = omega (arith, items_cost pair_of pair_cost leaf_good leaf_costs (cells_of b) c.goods, c.room);
      few = omega (arith, length-map (cells_of b) pair_of, c.room);
    }

pub record BranchHas (b : List ℕ) : Type 0 where
  pub rises : ascending (branch_in b).rest ≡ true
  pub fit : AllByRecursion CellFits (branch_in b).rest
  pub light : branch_cost (branch_in b) ≤ 496
  pub few : length (branch_in b).rest ≤ 248

pub branch_has : (b : List ℕ) → first_fault branch_rules b ≡ None → BranchHas b
branch_has b h =
    let c = cells_of_lem branch_rules b h in
    record {
      rises = sym (rising_ascending (cells_of b)) ∙ c.rises;
      fit = cells_fit (cells_of b) c.goods;
      light = omega (arith, items_cost cell_of cell_cost branch_good branch_costs (cells_of b) c.goods, c.room);
      few = omega (arith, length-map (cells_of b) cell_of, c.room);
    }

-- every value of the type of leaves is such a page
pub leaf_page_has : (l : LeafPage) → LeafHas l.bytes
leaf_page_has l = leaf_has l.bytes (none_of leaf_rules l.bytes l.sound)
