-- Branches of a sound tree are wide, and so it is low.
use Rattle.std.proofs.Common.{ℕ, zero, suc, ◌+◌, ◌*◌, ◌^◌, ◌≤◌, List, [], ◌∷◌, length, inl, inr, pow-suc, arith}
use native.Mathlib.Nat.{pow-le-pow_right}
use Rattle.std.specs.List.{AllByRecursion}
use Rattle.std.proofs.lemmas.Bool.{cases_lt}
use Rattle.cuts.specs.Nodes.{Cell, cell_cost}
use Rattle.cuts.specs.Cuts.{total}
use Rattle.cuts.specs.Sizes.{quarter, largest_cell}
use Rattle.cuts.proofs.Balance.{two_cells, cells_small}
use Rattle.tree.specs.Trees.{branch, Tree}
use Rattle.tree.specs.Sound.{Bound, none, Full, Forked}
use Rattle.tree.specs.Counts.{sum_over, nodes, EachChild, Wide, WideBelow}
use Rattle.tree.specs.LawsOfSize.{BranchesAreWide, SoundTreesAreLow}
use Rattle.tree.proofs.Strict.{Rises, Strict, strict_tree}

rises_each : {X : Type 0} (S : List ℕ → Bound → X → Type 0) (P : X → Type 0)
    → ((lo : List ℕ) (hi : Bound) (x : X) → S lo hi x → P x)
    → (lo : List ℕ) (hi : Bound) (cs : List (Cell X)) → Rises S lo hi cs → AllByRecursion (λ c. P c.child) cs
rises_each S P f lo hi [] h = tt
rises_each S P f lo hi (c ∷ cs) h = (f _ _ _ h.2, rises_each S P f c.separator hi cs h.3)

wide : (n : ℕ) (lo : List ℕ) (hi : Bound) (t : Tree n) → Full n (Strict n) lo hi t → Wide n t
wide zero lo hi t h = tt
wide (suc n) lo hi t h =
    let l = two_cells cell_cost quarter largest_cell (omega arith) t.rest (cells_small t.rest h.1.1.1) h.0 in
    (omega arith, (wide n _ _ _ h.1.1.0.0, rises_each (Full n (Strict n)) (Wide n) (wide n) lo hi t.rest h.1.1.0.1))

pub branches_are_wide_lem : BranchesAreWide
branches_are_wide_lem b h = by b.height b.root (strict_tree b h).0.1 h.1
  where
    by : (n : ℕ) (t : Tree n) → Strict n [] none t → Forked n t → WideBelow n t
    by zero t s f = tt
    by (suc n) t s f =
        (omega arith, (wide n _ _ _ s.0.0, rises_each (Full n (Strict n)) (Wide n) (wide n) [] none t.rest s.0.1))

-- how many nodes that makes
three_nodes : (n : ℕ) (x : Tree n) (cs : List (Cell (Tree n)))
    → ((t : Tree n) → Wide n t → 3 ^ suc n ≤ 2 * nodes n t + 1)
    → 3 ≤ suc (length cs) → EachChild (Wide n) (branch x cs)
    → 3 ^ suc (suc n) ≤ 2 * suc (sum_over (nodes n) (branch x cs)) + 1
unfolding total
three_nodes n x [] f l w = let bad : ⊥ = omega arith in absurd bad
three_nodes n x (c ∷ []) f l w = let bad : ⊥ = omega arith in absurd bad
three_nodes n x (c ∷ d ∷ cs) f l w =
    omega (arith, f x w.0, f c.child w.1.0, f d.child w.1.1.0, pow-suc 3 (suc n))

wide_nodes : (n : ℕ) (t : Tree n) → Wide n t → 3 ^ suc n ≤ 2 * nodes n t + 1
wide_nodes zero t h = omega arith
wide_nodes (suc n) t h = three_nodes n t.first t.rest (wide_nodes n) h.0 h.1

root_nodes : (n : ℕ) (t : Tree n) → WideBelow n t → 3 ^ n ≤ nodes n t
unfolding total
root_nodes zero t h = omega arith
root_nodes (suc n) t h = by t.first t.rest h.0 h.1
  where
    by : (x : Tree n) (cs : List (Cell (Tree n))) → 2 ≤ suc (length cs) → EachChild (Wide n) (branch x cs)
        → 3 ^ suc n ≤ suc (sum_over (nodes n) (branch x cs))
    by x [] l w = let bad : ⊥ = omega arith in absurd bad
    by x (c ∷ cs) l w = omega (arith, wide_nodes n x w.0, wide_nodes n c.child w.1.0)

pub sound_trees_are_low_lem : SoundTreesAreLow
sound_trees_are_low_lem b h =
    let p = root_nodes b.height b.root (branches_are_wide_lem b h) in (
      p,
      λ few. elim (cases_lt b.height 7)
          [ inl l ↦ l | inr g ↦ let m = pow-le-pow_right {n = 3} (omega arith) {i = 7} {j = b.height} g in let bad : ⊥ = omega arith in absurd bad ],
    )
