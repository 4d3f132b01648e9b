-- What the parts of a cut cost.
use Rattle.std.proofs.Common.{◌≡◌, ℕ, zero, suc, ◌+◌, ◌*◌, ◌<◌, ◌≤◌, max, List, [], ◌∷◌, ◌++◌, length, take, drop, arith}
use Rattle.std.proofs.lemmas.Bool.Decides.{nat_tests}
use Rattle.std.specs.List.{AllByRecursion}
use Rattle.std.proofs.ByRecursion.{All-weaker}
use Rattle.cuts.specs.Nodes.{Pair, Cell, pair_cost, cell_cost, PairFits, CellFits}
use Rattle.cuts.specs.Cuts.{total, fair, middle}
use Rattle.cuts.specs.Sizes.{usable, quarter_of, largest_pair, largest_cell}
use Rattle.cuts.specs.Laws.{LeafPartsFit, BranchPartsFit, LeafCutsFit, BranchCutsFit, BranchCutsAreJustPastHalf, OverfullLeavesAreCut, OverfullBranchesAreCut, LeafCutsAreFairest, FilledBranchesHaveTwoCells}

pub total_append : {X : Type 0} (f : X → ℕ) (xs ys : List X) → total f (xs ++ ys) ≡ total f xs + total f ys
unfolding total
total_append f [] ys = omega arith
total_append f (x ∷ xs) ys = let h = total_append f xs ys in omega arith

pub total_parts : {X : Type 0} (f : X → ℕ) (i : ℕ) (xs : List X)
    → total f (take i xs) + total f (drop i xs) ≡ total f xs
unfolding total
total_parts f zero xs = omega arith
total_parts f (suc i) [] = omega arith
total_parts f (suc i) (x ∷ xs) = let h = total_parts f i xs in omega arith

-- neither part costs more than the other by more than the largest element
fair_near : {X : Type 0} (f : X → ℕ) (m a : ℕ) (xs : List X) → AllByRecursion (λ (x : X). f x ≤ m) xs → a ≤ total f xs + m
    → (a + total f (take (fair f a xs) xs) ≤ total f (drop (fair f a xs) xs) + m)
    × (total f (drop (fair f a xs) xs) ≤ a + total f (take (fair f a xs) xs) + m)
unfolding total fair
fair_near f m a [] h b = omega arith
fair_near f m a (x ∷ xs) h b = let r = fair_near f m (a + f x) xs h.1 in grind (arith, nat_tests)

middle_near : {X : Type 0} (f : X → ℕ) (m t a : ℕ) (xs : List X) → AllByRecursion (λ (x : X). f x ≤ m) xs → a + total f xs ≡ t
    → 2 * a ≤ t → 0 < total f xs
    → (2 * (a + total f (take (middle f t a xs) xs)) ≤ t)
    × (2 * total f (drop (suc (middle f t a xs)) xs) ≤ t)
    × (t ≤ 2 * (a + total f (take (middle f t a xs) xs)) + 2 * m)
    × (t ≤ 2 * (total f (drop (suc (middle f t a xs)) xs)) + 2 * m)
    × (middle f t a xs < length xs)
unfolding total middle
middle_near f m t a [] h e b n = omega arith
middle_near f m t a (x ∷ xs) h e b n = let r = middle_near f m t (a + f x) xs h.1 in grind (arith, nat_tests)

fairest : {X : Type 0} (f : X → ℕ) (a : ℕ) (xs : List X) (j : ℕ) → AllByRecursion (λ (x : X). 1 ≤ f x) xs
    → (max (a + total f (take (fair f a xs) xs)) (total f (drop (fair f a xs) xs)) ≤ max (a + total f (take j xs)) (total f (drop j xs)))
    × (j < fair f a xs → max (a + total f (take (fair f a xs) xs)) (total f (drop (fair f a xs) xs)) < max (a + total f (take j xs)) (total f (drop j xs)))
unfolding total fair
fairest f a [] zero h = omega arith
fairest f a [] (suc j) h = omega arith
fairest f a (x ∷ xs) zero h = let r = fairest f (a + f x) xs 0 h.1 in grind (arith, nat_tests)
fairest f a (x ∷ xs) (suc j) h = let r = fairest f (a + f x) xs j h.1 in let s = total_parts f j xs in grind (arith, nat_tests)

middle_past : {X : Type 0} (f : X → ℕ) (t a : ℕ) (xs : List X) → t < 2 * (a + total f xs)
    → t < 2 * (a + total f (take (suc (middle f t a xs)) xs))
unfolding total middle
middle_past f t a [] h = omega arith
middle_past f t a (x ∷ xs) h = let r = middle_past f t (a + f x) xs in grind (arith, nat_tests)

middle_first : {X : Type 0} (f : X → ℕ) (t a : ℕ) (xs : List X) (j : ℕ) → j < middle f t a xs
    → 2 * (a + total f (take (suc j) xs)) ≤ t
unfolding total middle
middle_first f t a [] j h = omega arith
middle_first f t a (x ∷ xs) zero h = grind (arith, nat_tests)
middle_first f t a (x ∷ xs) (suc j) h = let r = middle_first f t (a + f x) xs j in grind (arith, nat_tests)

-- where the parts fit, for any elements
module _ {X : Type 0} (f : X → ℕ) (u m : ℕ) (xs : List X) (small : AllByRecursion (λ (x : X). f x ≤ m) xs) where
  pub leaf_parts : m + 2 * quarter_of u ≤ total f xs → total f xs + m ≤ suc (2 * u) → LeafPartsFit f u xs (fair f 0 xs)
  leaf_parts p q =
      let r = fair_near f m 0 xs small (omega arith) in
      let s = total_parts f (fair f 0 xs) xs in
      ((omega arith, omega arith), (omega arith, omega arith))

  pub branch_parts : 0 < total f xs → 2 * m + 2 * quarter_of u ≤ total f xs → total f xs ≤ suc (2 * u)
      → BranchPartsFit f u xs (middle f (total f xs) 0 xs)
  branch_parts n p q =
      let r = middle_near f m (total f xs) 0 xs small (omega arith) (omega arith) n in
      (r.4, (omega arith, omega arith), (omega arith, omega arith))

pub two_cells : {X : Type 0} (f : X → ℕ) (q m : ℕ) → m < q → (xs : List X) → AllByRecursion (λ (x : X). f x ≤ m) xs
    → q ≤ total f xs → 2 ≤ length xs
unfolding total
two_cells f q m l [] h n = omega arith
two_cells f q m l (x ∷ []) h n = omega arith
two_cells f q m l (x ∷ y ∷ xs) h n = omega arith

-- the cells that there are
pub pairs_small : (ps : List Pair) → AllByRecursion PairFits ps → AllByRecursion (λ (p : Pair). pair_cost p ≤ largest_pair) ps
pairs_small ps h = All-weaker _ _ (λ p f. omega arith) ps h

pub cells_small : {X : Type 0} (cs : List (Cell X)) → AllByRecursion CellFits cs
    → AllByRecursion (λ (c : Cell X). cell_cost c ≤ largest_cell) cs
cells_small cs h = All-weaker _ _ (λ c f. omega arith) cs h

pub overfull_leaf : (u : ℕ) → 2 * largest_pair ≤ suc u → (ps : List Pair) → AllByRecursion PairFits ps → u < total pair_cost ps
    → total pair_cost ps ≤ u + max largest_pair (quarter_of u)
    → LeafPartsFit pair_cost u ps (fair pair_cost 0 ps)
overfull_leaf u b ps h p q = leaf_parts pair_cost u largest_pair ps (pairs_small ps h) (omega arith) (omega arith)

pub overfull_branch : {X : Type 0} (u : ℕ) → 4 * largest_cell ≤ suc u → (cs : List (Cell X)) → AllByRecursion CellFits cs
    → u < total cell_cost cs → total cell_cost cs ≤ suc (2 * u)
    → BranchPartsFit cell_cost u cs (middle cell_cost (total cell_cost cs) 0 cs)
overfull_branch u b cs h p q = branch_parts cell_cost u largest_cell cs (cells_small cs h) (omega arith) (omega arith) q

-- the laws
pub leaf_cuts_fit_lem : LeafCutsFit
leaf_cuts_fit_lem u m costs h p q = leaf_parts (λ c. c) u m costs h p q

pub branch_cuts_fit_lem : BranchCutsFit
branch_cuts_fit_lem u m costs h n p q = branch_parts (λ c. c) u m costs h n p q

pub branch_cuts_are_just_past_half_lem : BranchCutsAreJustPastHalf
branch_cuts_are_just_past_half_lem costs n =
    let p = middle_past (λ c. c) (total (λ c. c) costs) 0 costs (omega arith) in
    (omega arith, λ j l. omega (arith, middle_first (λ c. c) (total (λ c. c) costs) 0 costs j l))

pub overfull_leaves_are_cut_lem : OverfullLeavesAreCut
overfull_leaves_are_cut_lem = (overfull_leaf usable (omega arith), overfull_leaf)

pub overfull_branches_are_cut_lem : OverfullBranchesAreCut
overfull_branches_are_cut_lem =
    (λ cs h p q. overfull_branch usable (omega arith) cs h p (omega arith), λ u b cs h p q. overfull_branch u b cs h p (omega arith))

pub leaf_cuts_are_fairest_lem : LeafCutsAreFairest
leaf_cuts_are_fairest_lem ps j =
    let b = fairest pair_cost 0 ps j (all_of ps) in
    (omega arith, λ l. omega (arith, b.1 l))
  where
    all_of : (ps : List Pair) → AllByRecursion (λ (p : Pair). 1 ≤ pair_cost p) ps
    all_of [] = tt
    all_of (p ∷ ps) = (omega arith, all_of ps)

pub filled_branches_have_two_cells_lem : FilledBranchesHaveTwoCells
filled_branches_have_two_cells_lem u b cs h p = two_cells cell_cost (quarter_of u) largest_cell b cs (cells_small cs h) p
