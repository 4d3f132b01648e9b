-- How many nodes an edit adds.
use Rattle.std.proofs.Common.{◌≡◌, ℕ, zero, suc, ◌+◌, ◌<◌, ◌≤◌, Bool, true, false, cond, ◌||◌, leb, List, [], ◌∷◌, ◌++◌, length, take, drop, refl, ap, arith}
use Rattle.std.proofs.lemmas.List.{take-append-drop}
use Rattle.std.proofs.lemmas.Bool.Decides.{nat_tests}
use Rattle.cuts.specs.Keys.{AtMost}
use Rattle.cuts.specs.Nodes.{Pair, Cell, cell_cost}
use Rattle.cuts.specs.Cuts.{total, middle}
use Rattle.cuts.specs.Sizes.{usable}
use Rattle.cuts.proofs.Order.{less_nil}
use Rattle.cuts.proofs.Balance.{total_append}
use Rattle.tree.specs.Maps.{insert, delete}
use Rattle.tree.specs.Trees.{branch, cell, Tree, leaf_cost, cost, underfull}
use Rattle.tree.specs.Edits.{Grown, one, two, cut, cut_leaf, give_up, fit, merge, join, in_place, prepend, place, placed, mend, mended, edit, give_way, rooted}
use Rattle.tree.specs.Sound.{Bound, none, Under, Light, Full}
use Rattle.tree.specs.Search.{picked, child_at}
use Rattle.tree.specs.Places.{splice, splice_two}
use Rattle.tree.specs.Counts.{sum_over, nodes, nodes_of}
use Rattle.tree.specs.LawsOfSize.{EditsAddFewNodes}
use Rattle.tree.proofs.Strict.{Strict, strict_tree}
use Rattle.tree.proofs.ByPlace.{place_at, picked_within, at_picked}
use Rattle.tree.proofs.Kept.{delete_cost}

-- a sum over what an edit leaves
abbrev pub sum_grown : {X : Type 0} → (X → ℕ) → Grown X → ℕ
sum_grown w (one x) = w x
sum_grown w (two l s r) = w l + w r

module _ {X : Type 0} (w : X → ℕ) where
  pub splice_sum : (i : ℕ) (g : Grown X) (x : X) (cs : List (Cell X)) → i ≤ length cs
      → sum_over w (splice i g x cs) + w (child_at i x cs) ≡ sum_grown w g + sum_over w (branch x cs)
  unfolding total
  splice_sum zero (one y) x cs l = omega arith
  splice_sum zero (two a s b) x cs l = omega arith
  splice_sum (suc i) g x [] l = let bad : ⊥ = omega arith in absurd bad
  splice_sum (suc i) g x (c ∷ cs) l = let r = splice_sum i g c.child cs (omega arith) in omega arith

  pub splice_two_sum : (i : ℕ) (g : Grown X) (x : X) (cs : List (Cell X)) → i < length cs
      → sum_over w (splice_two i g x cs) + w (child_at i x cs) + w (child_at (suc i) x cs) ≡ sum_grown w g + sum_over w (branch x cs)
  unfolding total
  splice_two_sum i g x [] l = let bad : ⊥ = omega arith in absurd bad
  splice_two_sum zero (one y) x (c ∷ cs) l = omega arith
  splice_two_sum zero (two a s b) x (c ∷ cs) l = omega arith
  splice_two_sum (suc i) g x (c ∷ cs) l = let r = splice_two_sum i g c.child cs (omega arith) in omega arith

  place_sum : (e : X → Grown X) (k : List ℕ) (d : ℕ) (x : X) (cs : List (Cell X))
      → sum_grown w (e (child_at (picked k cs) x cs)) ≤ w (child_at (picked k cs) x cs) + d
      → sum_over w (place e k x cs) ≤ sum_over w (branch x cs) + d
  place_sum e k d x cs h =
      let s = splice_sum (picked k cs) (e (child_at (picked k cs) x cs)) x cs (picked_within k cs) in
      rw (place_at e k x cs) (omega arith)

  in_place_sum : (g : Grown X) (cs : List (Cell X))
      → sum_over w (in_place g cs) ≡ sum_grown w g + total (λ c. w c.child) cs
  unfolding total
  in_place_sum (one y) cs = refl
  in_place_sum (two a s b) cs = omega arith

  mend_sum : (under : X → Bool) (j : X → List ℕ → X → Grown X)
      → ((l : X) (s : List ℕ) (r : X) → sum_grown w (j l s r) ≤ w l + w r)
      → (x : X) (cs : List (Cell X)) → sum_over w (mend under j x cs) ≤ sum_over w (branch x cs)
  unfolding mend total
  mend_sum under j h x [] = omega arith
  mend_sum under j h x (c ∷ cs) =
      let r = mend_sum under j h c.child cs in
      let p = h x c.separator c.child in
      let q = in_place_sum (j x c.separator c.child) cs in
      elim (under x || under c.child) as
      (λ t. sum_over w (cond t (in_place (j x c.separator c.child) cs) (prepend x c.separator (mend under j c.child cs))) ≤ sum_over w (branch x (c ∷ cs)))
      [ true ↦ omega arith | false ↦ omega arith ]

  give_up_sum : (x : X) (bs cs : List (Cell X))
      → sum_grown (λ b. suc (sum_over w b)) (give_up x bs cs) ≤ suc (suc (sum_over w (branch x (bs ++ cs))))
  unfolding total
  give_up_sum x bs [] = let a = total_append (λ (c : Cell X). w c.child) bs [] in omega arith
  give_up_sum x bs (c ∷ cs) = let a = total_append (λ (c : Cell X). w c.child) bs (c ∷ cs) in omega arith

-- a node that is cut is one more, and two that are merged one less
cut_nodes : (n : ℕ) (t : Tree n) → sum_grown (nodes n) (cut n t) ≤ suc (nodes n t)
cut_nodes zero t = omega arith
cut_nodes (suc n) t =
    let i = middle cell_cost (total cell_cost t.rest) 0 t.rest in
    let g = give_up_sum (nodes n) t.first (take i t.rest) (drop i t.rest) in
    let e = ap (λ (cs : List (Cell (Tree n))). sum_over (nodes n) (branch t.first cs)) (take-append-drop i t.rest) in
    omega arith

merge_nodes : (n : ℕ) (l : Tree n) (s : List ℕ) (r : Tree n) → suc (nodes n (merge n l s r)) ≡ nodes n l + nodes n r
unfolding total
merge_nodes zero l s r = refl
merge_nodes (suc n) l s r =
    let a = total_append (λ (c : Cell (Tree n)). nodes n c.child) l.rest (cell s r.first ∷ r.rest) in
    omega arith

fit_nodes : (n : ℕ) (t : Tree n) → sum_grown (nodes n) (fit (cost n) (cut n) t) ≤ suc (nodes n t)
unfolding fit
fit_nodes n t =
    let c = cut_nodes n t in
    elim (leb (cost n t) usable) as (λ b. sum_grown (nodes n) (cond b (one t) (cut n t)) ≤ suc (nodes n t)) [ true ↦ omega arith | false ↦ c ]

join_nodes : (n : ℕ) (l : Tree n) (s : List ℕ) (r : Tree n)
    → sum_grown (nodes n) (join n l s r) ≤ nodes n l + nodes n r
join_nodes n l s r = let f = fit_nodes n (merge n l s r) in let m = merge_nodes n l s r in omega arith

-- an edit that adds at most a nodes at a leaf
edit_nodes : (e : List Pair → List Pair) (k : List ℕ) (a : ℕ)
    → ((ps : List Pair) → leaf_cost ps ≤ usable → sum_grown (nodes zero) (fit leaf_cost cut_leaf (e ps)) ≤ suc a)
    → (n : ℕ) (lo : List ℕ) (hi : Bound) (t : Tree n) → AtMost lo k → Under k hi → Light n (Strict n) lo hi t
    → sum_grown (nodes n) (edit e k n t) ≤ nodes n t + (n + a)
unfolding edit
edit_nodes e k a f zero lo hi t p q h = let r = f t h.0 in omega arith
edit_nodes e k a f (suc n) lo hi t p q h =
    let r = at_picked (Full n (Strict n)) (λ x. sum_grown (nodes n) (edit e k n x) ≤ nodes n x + (n + a)) k (λ lo' hi' x p' q' s. edit_nodes e k a f n lo' hi' x p' q' s.1)
    lo hi t.first t.rest p q h.1.0 in
    let b = placed (edit e k n) k t in
    let c = place_sum (nodes n) (edit e k n) k (n + a) t.first t.rest r in
    let m = mend_sum (nodes n) (underfull n) (join n) (join_nodes n) b.first b.rest in
    let z = fit_nodes (suc n) (mended (underfull n) (join n) b) in
    omega arith

rooted_nodes : (n : ℕ) (g : Grown (Tree n)) → nodes_of (rooted n g) ≤ suc (sum_grown (nodes n) g)
unfolding total
rooted_nodes zero (one t) = omega arith
rooted_nodes (suc n) (one t) = by t.first t.rest
  where
    by : (x : Tree n) (cs : List (Cell (Tree n)))
        → nodes_of (give_way n x cs) ≤ suc (suc (sum_over (nodes n) (branch x cs)))
    by x [] = omega arith
    by x (c ∷ cs) = omega arith
rooted_nodes n (two l s r) = omega arith

put_leaf : (k v : List ℕ) (ps : List Pair) → sum_grown (nodes zero) (fit leaf_cost cut_leaf (insert k v ps)) ≤ 2
put_leaf k v ps = fit_nodes zero (insert k v ps)

remove_leaf : (k : List ℕ) (ps : List Pair) → leaf_cost ps ≤ usable
    → sum_grown (nodes zero) (fit leaf_cost cut_leaf (delete k ps)) ≤ 1
unfolding fit
remove_leaf k ps h =
    let d = delete_cost k ps in
    let t : leb (leaf_cost (delete k ps)) usable ≡ true = grind (arith, nat_tests) in rw t (omega arith)

pub edits_add_few_nodes_lem : EditsAddFewNodes
edits_add_few_nodes_lem b h k v =
    let s = (strict_tree b h).0 in
    let p = edit_nodes (insert k v) k 1 (λ ps _. put_leaf k v ps) b.height [] none b.root (less_nil k) tt s in
    let p' = rooted_nodes b.height (edit (insert k v) k b.height b.root) in
    let q = edit_nodes (delete k) k 0 (remove_leaf k) b.height [] none b.root (less_nil k) tt s in
    let q' = rooted_nodes b.height (edit (delete k) k b.height b.root) in
    (omega arith, omega arith)
