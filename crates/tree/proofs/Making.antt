-- How many nodes an edit makes.
use Rattle.std.proofs.Common.{◌≡◌, ℕ, zero, suc, ◌*◌, ◌<◌, ◌≤◌, Bool, true, false, cond, List, [], ◌∷◌, map, length, sym, refl, ap, ◌∙◌, subst, arith}
use Rattle.std.specs.List.{AllByRecursion}
use Rattle.cuts.specs.Keys.{AtMost}
use Rattle.cuts.specs.Nodes.{Pair, Cell, Branch}
use Rattle.cuts.specs.Cuts.{total}
use Rattle.cuts.proofs.Order.{less_nil}
use Rattle.tree.specs.Maps.{insert, delete}
use Rattle.tree.specs.Trees.{Tree, branch_cost, underfull}
use Rattle.tree.specs.Edits.{Grown, one, two, cut_branch, fit, place, placed, mended, join, edit}
use Rattle.tree.specs.Sound.{Bound, none, Under, Light, Full, Forked}
use Rattle.tree.specs.Search.{picked, child_at}
use Rattle.tree.specs.Places.{separator_at, splice, join_at, repair_at, map_cell, map_branch, map_grown}
use Rattle.tree.specs.Counts.{sum_over, Marked, old, new, mark, marked_step, made_below, made_at_root, made_in_place_of}
use Rattle.tree.specs.LawsOfSize.{MarkedStepsAreTheEdits, MakesFewNodes, EditsMakeFewNodes}
use Rattle.tree.proofs.Strict.{Strict, strict_tree}
use Rattle.tree.proofs.Around.{lacks, wants}
use Rattle.tree.proofs.ByPlace.{Settled, mend_place, picked_within, at_picked}
use Rattle.tree.proofs.Natural.{mend_map, place_map, picked_map, child_at_map}
use Rattle.tree.proofs.Counting.{sum_grown, splice_sum, splice_two_sum}
use Rattle.tree.proofs.Kept.{Edits, insert_edits, delete_edits, ranges_light, full_forked, under_no}
use Rattle.tree.proofs.Edited.{settled}

-- forgetting the marks
map_old : {X : Type 0} (cs : List (Cell X)) → map (map_cell (λ (m : Marked X). m.node)) (map (map_cell old) cs) ≡ cs
map_old [] = refl
map_old (c ∷ cs) = ap (λ (r : List (Cell _)). c ∷ r) (map_old cs)

grown_new : {X : Type 0} (g : Grown X) → map_grown (λ (m : Marked X). m.node) (map_grown new g) ≡ g
grown_new (one x) = refl
grown_new (two l s r) = refl

pub forget_marks : {X : Type 0} (under : X → Bool) (j : X → List ℕ → X → Grown X) (e : X → Grown X) (k : List ℕ) (b : Branch X)
    → map_branch (λ m. m.node) (marked_step under j e k b) ≡ mended under j (placed e k b)
forget_marks {X = X} under j e k b =
    let f : Marked X → X = λ m. m.node in
    let p = placed (λ m. map_grown new (e (f m))) k (map_branch old b) in
    mend_map f (λ m. under (f m)) under (λ l s r. map_grown new (j (f l) s (f r))) j (λ _. refl) (λ l s r. grown_new (j (f l) s (f r))) p.first p.rest
    ∙ (ap (mended under j) (place_map f (λ m. map_grown new (e (f m))) e k (λ m. grown_new (e (f m))) (old b.first) (map (map_cell old) b.rest))
    ∙ ap (λ (cs : List (Cell X)). mended under j (place e k b.first cs)) (map_old b.rest))

pub marked_steps_are_the_edits_lem : MarkedStepsAreTheEdits
unfolding edit
marked_steps_are_the_edits_lem e k n t = ap (fit branch_cost cut_branch) (forget_marks (underfull n) (join n) (edit e k n) k t)

-- at most two of the children are new
module _ {X : Type 0} (under : X → Bool) (j : X → List ℕ → X → Grown X) (e : X → Grown X) (k : List ℕ) where
  new_mark : (g : Grown X) → sum_grown mark (map_grown new g) ≤ 2
  new_mark (one x) = omega arith
  new_mark (two l s r) = omega arith

  old_marks : (cs : List (Cell X)) → total (λ c. mark c.child) (map (map_cell old) cs) ≡ 0
  unfolding total
  old_marks [] = refl
  old_marks (c ∷ cs) = let r = old_marks cs in omega arith

  old_wants : (cs : List (Cell X))
      → total (λ c. lacks (λ (m : Marked X). under m.node) c.child) (map (map_cell old) cs) ≡ total (λ c. lacks under c.child) cs
  unfolding total
  old_wants [] = refl
  old_wants (c ∷ cs) = let r = old_wants cs in omega arith

  length_old : (cs : List (Cell X)) → length (map (map_cell (old {X = X})) cs) ≡ length cs
  length_old [] = refl
  length_old (c ∷ cs) = ap suc (length_old cs)

  settled_new : (g : Grown X) → Settled under g → Settled (λ (m : Marked X). under m.node) (map_grown new g)
  settled_new (one x) s = tt
  settled_new (two l s r) h = h

  abbrev node_under : Marked X → Bool
  node_under m = under m.node

  abbrev node_joins : Marked X → List ℕ → Marked X → Grown (Marked X)
  node_joins l s r = map_grown new (j l.node s r.node)

  join_new : (x y : X) (cs : List (Cell X)) (i : ℕ) → i ≤ length (map (map_cell old) cs)
      → 0 < length (map (map_cell old) cs)
      → sum_over mark (join_at node_joins i (new y) (old x) (map (map_cell old) cs)) ≤ 2
  join_new x y cs zero l n =
      let bs = map (map_cell old) cs in let z = old_marks cs in
      let g = j y (separator_at 0 bs) (child_at 1 (old x) bs).node in
      omega (arith, splice_two_sum mark 0 (map_grown new g) (old x) bs n, new_mark g)
  join_new x y cs (suc i) l n =
      let bs = map (map_cell old) cs in let z = old_marks cs in
      let g = j (child_at i (old x) bs).node (separator_at i bs) y in
      omega (arith, splice_two_sum mark i (map_grown new g) (old x) bs l, new_mark g)

  repair_new : (x : X) (cs : List (Cell X)) (i : ℕ) (g : Grown X) → i ≤ length (map (map_cell old) cs)
      → 0 < length (map (map_cell old) cs)
      → sum_over mark (repair_at node_under node_joins i (map_grown new g) (old x) (map (map_cell old) cs)) ≤ 2
  repair_new x cs i (one y) l n =
      let bs = map (map_cell old) cs in let z = old_marks cs in
      let s = splice_sum mark i (one (new y)) (old x) bs l in
      elim (under y) as (λ t. sum_over mark (cond t (join_at node_joins i (new y) (old x) bs) (splice i (one (new y)) (old x) bs)) ≤ 2)
      [ true ↦ join_new x y cs i l n | false ↦ omega arith ]
  repair_new x cs i (two a s b) l n =
      let z = old_marks cs in
      omega (arith, splice_sum mark i (two (new a) s (new b)) (old x) (map (map_cell old) cs) l)

  pub two_new : (b : Branch X) → 0 < length b.rest
      → Settled under (e (child_at (picked k b.rest) b.first b.rest)) → wants under b.first b.rest ≡ 0
      → sum_over mark (marked_step under j e k b) ≤ 2
  two_new b n s w =
      let x = old b.first in let cs = map (map_cell old) b.rest in
      let l = length_old b.rest in let v = old_wants b.rest in
      let q : child_at (picked k cs) x cs ≡ old (child_at (picked k b.rest) b.first b.rest) = rw (picked_map old k b.rest) (sym (child_at_map old (picked k b.rest) b.first b.rest)) in
      let t = mend_place node_under node_joins (λ m. map_grown new (e m.node)) k x cs (omega arith)
      (subst (λ (m : Marked X). Settled node_under (map_grown new (e m.node))) (sym q) (settled_new _ s)) (omega arith) in
      subst (λ (r : Branch (Marked X)). sum_over mark r ≤ 2) (sym t)
      (repair_new b.first b.rest (picked k cs) (e (child_at (picked k cs) x cs).node) (picked_within k cs) (omega arith))

-- so an edit makes at most two nodes a level
made_few : (e : List Pair → List Pair) (k : List ℕ) → Edits e k → (n : ℕ) (lo : List ℕ) (hi : Bound) (t : Tree n)
    → AtMost lo k → Under k hi → Forked n t → Light n (Strict n) lo hi t → AllByRecursion (λ m. m ≤ 2) (made_below e k n t)
unfolding made_below
made_few e k ed zero lo hi t p q f h = tt
made_few e k ed (suc n) lo hi t p q f h =
    let l = ranges_light n (Strict n) lo hi t.first t.rest h.1.0 in (
      two_new (underfull n) (join n) (edit e k n) k t f (settled e k ed n lo hi t p q h) l.1,
      at_picked (Full n (Strict n)) (λ x. AllByRecursion (λ m. m ≤ 2) (made_below e k n x)) k
          (λ lo' hi' x p' q' z. made_few e k ed n lo' hi' x p' q' (full_forked n x (under_no n x z.0)) z.1)
          lo hi t.first t.rest p q h.1.0,
    )

made_levels : (e : List Pair → List Pair) (k : List ℕ) (n : ℕ) (t : Tree n) → length (made_below e k n t) ≡ n
unfolding made_below
made_levels e k zero t = refl
made_levels e k (suc n) t = ap suc (made_levels e k n _)

two_each : (ms : List ℕ) → AllByRecursion (λ m. m ≤ 2) ms → total (λ m. m) ms ≤ 2 * length ms
unfolding total
two_each [] h = omega arith
two_each (m ∷ ms) h = let r = two_each ms h.1 in omega arith

made_at_root_lem : (n : ℕ) (g : Grown (Tree n)) → made_at_root n g ≤ 3
made_at_root_lem zero (one t) = omega arith
made_at_root_lem (suc n) (one t) = by t.rest
  where
    by : (cs : List (Cell (Tree n))) → made_in_place_of cs ≤ 3
    by [] = omega arith
    by (c ∷ cs) = omega arith
made_at_root_lem n (two l s r) = omega arith

pub edits_make_few_nodes_lem : EditsMakeFewNodes
edits_make_few_nodes_lem b h = (
  λ k v f l. few (insert k v) k (insert_edits k v f l),
  λ k. few (delete k) k (delete_edits k),
)
  where
    few : (e : List Pair → List Pair) (k : List ℕ) → Edits e k → MakesFewNodes e k b
    few e k ed =
        let s = strict_tree b h in
        let m = made_few e k ed b.height [] none b.root (less_nil k) tt s.1 s.0 in
        let t = two_each _ m in
        let l = made_levels e k b.height b.root in
        let r = made_at_root_lem b.height (edit e k b.height b.root) in
        record { below = m; at_root = r; in_all = omega arith }
