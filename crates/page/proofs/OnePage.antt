-- Edits within one leaf: its first cells, perhaps a new one, its last cells.
use Rattle.std.proofs.Common.{◌≡◌, ℕ, ◌+◌, ◌≤◌, List, ◌++◌, map, take, drop, true, sym, subst, arith}
use Rattle.cuts.specs.Nodes.{Pair}
use Rattle.tree.specs.Maps.{Rising}
use Rattle.page.specs.Kinds.{leaf_key, pair_of}
use Rattle.page.specs.Layout.{cost}
use Rattle.page.specs.Reading.{rising}
use Rattle.page.proofs.Pages.{cost_append, cost_split, cost_drop}
use Rattle.page.proofs.Puts.{rising_back, cells_as_pairs}

module _ (xs m : List (List ℕ)) (keep skip : ℕ) where
  pub rises_again : (ps : List Pair) → map pair_of m ≡ ps → Rising (take keep (map pair_of xs) ++ (ps ++ drop skip (map pair_of xs))) → rising leaf_key (take keep xs ++ (m ++ drop skip xs)) ≡ true
  rises_again ps e r = rising_back (take keep xs ++ (m ++ drop skip xs)) (subst Rising (sym (cells_as_pairs xs m ps keep skip e)) r)

  pub cost_kept : keep ≤ skip → cost (take keep xs ++ (m ++ drop skip xs)) ≤ cost xs + cost m
  cost_kept h =
      omega (arith, cost_append (take keep xs) (m ++ drop skip xs), cost_append m (drop skip xs), cost_split keep xs, cost_drop keep skip xs h)
