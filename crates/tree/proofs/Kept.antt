-- Soundness through every edit.
use Rattle.std.proofs.Common.{◌≡◌, ℕ, zero, suc, ◌+◌, ◌<◌, ◌≤◌, Bool, true, false, cond, leb, List, [], ◌∷◌, ◌++◌, length, take, drop, sym, refl, ap, subst, ◌∙◌, add-one, arith}
use Rattle.std.proofs.lemmas.List.{take-append-drop, length-drop, drop-drop}
use Rattle.std.proofs.ByRecursion.{All-append}
use Rattle.std.proofs.lemmas.Bool.Decides.{nat_tests}
use Rattle.cuts.specs.Keys.{Below, AtMost, KeyFits}
use Rattle.cuts.specs.Nodes.{Pair, Cell, pair_cost, cell_cost}
use Rattle.cuts.specs.Cuts.{total, fair, middle}
use Rattle.cuts.specs.Sizes.{usable, quarter, largest_pair}
use Rattle.cuts.proofs.Order.{less_nil}
use Rattle.cuts.proofs.Balance.{total_append, overfull_leaf, overfull_branch}
use Rattle.tree.specs.Maps.{insert, delete}
use Rattle.tree.specs.Trees.{cell, Tree, cost, underfull}
use Rattle.tree.specs.Edits.{Grown, one, two, cut, give_up, fit, merge, join, place, mended, edit, give_way, rooted}
use Rattle.tree.specs.Sound.{Bound, none, before, Under, Light, Full, Forked, SoundTree}
use Rattle.tree.specs.Laws.{TheEmptyTreeIsSound, EditsKeepTreesSound}
use Rattle.tree.proofs.Insertion.{all_insert, insert_rising, all_delete, delete_rising}
use Rattle.tree.proofs.Strict.{Rises, Ranges, Strict, StrictTree, strict_tree, sound_tree}
use Rattle.tree.proofs.Around.{ranges_split, ranges_merge, lacks, wants, Good, CellsFit, lacking, place_kept, mend_kept}
use Rattle.tree.proofs.Leaves.{all_split, leaf_split, leaf_merge}

pub merge_strict : (n : ℕ) (lo s : List ℕ) (hi : Bound) (l r : Tree n) → Below lo s → Under s hi → KeyFits s
    → Strict n lo (before s) l → Strict n s hi r → Strict n lo hi (merge n l s r)
merge_strict zero lo s hi l r p q f h k = leaf_merge lo s hi l r p q h k
merge_strict (suc n) lo s hi l r p q f h k = (
  ranges_merge (Full n (Strict n)) lo s hi l.first r.first l.rest r.rest p q h.0 k.0,
  All-append _ l.rest _ h.1 (f, k.1),
)

pub merge_cost : (n : ℕ) (s : List ℕ) (l r : Tree n)
    → (cost n l + cost n r ≤ cost n (merge n l s r)) × (cost n (merge n l s r) ≤ cost n l + cost n r + 8 + length s)
unfolding total
merge_cost zero s l r = let e = total_append pair_cost l r in omega arith
merge_cost (suc n) s l r = let e = total_append cell_cost l.rest (cell s r.first ∷ r.rest) in omega arith

-- both parts of a cut
abbrev pub Cut : (n : ℕ) → List ℕ → Bound → Grown (Tree n) → Type 0
Cut n lo hi (one t) = ⊥
Cut n lo hi (two l s r) = Below lo s × Under s hi × KeyFits s × Full n (Strict n) lo (before s) l × Full n (Strict n) s hi r

pub total_some : {X : Type 0} (f : X → ℕ) (xs : List X) → 0 < total f xs → 0 < length xs
unfolding total
total_some f [] h = h
total_some f (x ∷ xs) h = omega arith

pub branch_cut_lem : (n : ℕ) (lo : List ℕ) (hi : Bound) (x : Tree n) (bs cs : List (Cell (Tree n)))
    → Ranges (Full n (Strict n)) lo hi x (bs ++ cs) → CellsFit (bs ++ cs)
    → 0 < length cs → quarter ≤ total cell_cost bs → total cell_cost bs ≤ usable → quarter ≤ total cell_cost (drop 1 cs)
    → total cell_cost (drop 1 cs) ≤ usable
    → Cut (suc n) lo hi (give_up x bs cs)
branch_cut_lem n lo hi x bs [] h z k a b c d = let bad : ⊥ = omega arith in absurd bad
branch_cut_lem n lo hi x bs (c ∷ cs) h z k a b d e =
    let r = ranges_split (Full n (Strict n)) lo hi x bs c cs h in
    let s = all_split _ bs (c ∷ cs) z in
    (r.0, r.1, s.1.0, (a, (b, (r.2, s.0))), (d, (e, (r.3, s.1.1))))

pub cut_strict : (n : ℕ) (lo : List ℕ) (hi : Bound) (t : Tree n) → Strict n lo hi t → usable < cost n t
    → cost n t ≤ usable + largest_pair → Cut n lo hi (cut n t)
cut_strict zero lo hi t h p q =
    let i = fair pair_cost 0 t in
    let c = overfull_leaf usable (omega arith) t h.2 p (omega arith) in
    let r = leaf_split lo hi (take i t) (drop i t) (total_some pair_cost _ (omega arith)) (total_some pair_cost _ (omega arith)) (subst (λ (u : List Pair). Strict zero lo hi u) (sym (take-append-drop i t)) h) in
    (r.0, r.1, r.2, (c.0.0, (c.0.1, r.3)), (c.1.0, (c.1.1, r.4)))
cut_strict (suc n) lo hi t h p q =
    let i = middle cell_cost (total cell_cost t.rest) 0 t.rest in
    let c = overfull_branch usable (omega arith) t.rest h.1 p (omega arith) in
    let e = take-append-drop i t.rest in
    let d = ap (total cell_cost) (drop-drop 1 i t.rest ∙ ap (λ n. drop n t.rest) (add-one i)) in
    branch_cut_lem n lo hi t.first (take i t.rest) (drop i t.rest)
    (subst (λ (u : List (Cell (Tree n))). Ranges (Full n (Strict n)) lo hi t.first u) (sym e) h.0)
    (subst (λ (u : List (Cell (Tree n))). CellsFit u) (sym e) h.1)
    (simp length-drop (omega arith)) c.1.0 c.1.1 (omega arith) (omega arith)

-- a node that may be overfull
pub fit_strict : (n : ℕ) (lo : List ℕ) (hi : Bound) (t : Tree n) → Strict n lo hi t → cost n t ≤ usable + largest_pair
    → Good (underfull n) (Light n (Strict n)) lo hi (fit (cost n) (cut n) t) × (quarter ≤ cost n t → lacking (underfull n) (fit (cost n) (cut n) t) ≡ 0)
unfolding fit
fit_strict n lo hi t h q = by (leb (cost n t) usable) refl
  where
    from : (g : Grown (Tree n)) → Cut n lo hi g
        → Good (underfull n) (Light n (Strict n)) lo hi g × (quarter ≤ cost n t → lacking (underfull n) g ≡ 0)
    from (one x) c = absurd c
    from (two l s r) c =
        ((c.0, c.1, c.2, c.3.1, c.4.1, (let f = c.3.0 in grind (arith, nat_tests)), (let f = c.4.0 in grind (arith, nat_tests))), λ _. refl)

    by : (b : Bool) → leb (cost n t) usable ≡ b
        → Good (underfull n) (Light n (Strict n)) lo hi (cond b (one t) (cut n t)) × (quarter ≤ cost n t → lacking (underfull n) (cond b (one t) (cut n t)) ≡ 0)
    by true e = ((grind (arith, nat_tests), h), λ k. grind (arith, nat_tests))
    by false e = from (cut n t) (cut_strict n lo hi t h (grind (arith, nat_tests)) q)

pub join_strict : (n : ℕ) (lo s : List ℕ) (hi : Bound) (l r : Tree n) → Below lo s → Under s hi → KeyFits s
    → Light n (Strict n) lo (before s) l → Light n (Strict n) s hi r
    → lacks (underfull n) l + lacks (underfull n) r ≡ 1
    → Good (underfull n) (Light n (Strict n)) lo hi (join n l s r) × (lacking (underfull n) (join n l s r) ≡ 0)
join_strict n lo s hi l r p q f h k w =
    let c = merge_cost n s l r in
    let a = h.0 in
    let b = k.0 in
    let m : (quarter ≤ cost n l + cost n r) × (cost n l + cost n r < usable + quarter) = grind (arith, nat_tests) in
    let g = fit_strict n lo hi (merge n l s r) (merge_strict n lo s hi l r p q f h.1 k.1) (omega arith) in
    (g.0, g.1 (omega arith))

-- full children are light ones of which none is underfull
module _ (n : ℕ) (S : List ℕ → Bound → Tree n → Type 0) where
  rises_light : (lo : List ℕ) (hi : Bound) (cs : List (Cell (Tree n))) → Rises (Full n S) lo hi cs
      → Rises (Light n S) lo hi cs × (total (λ c. lacks (underfull n) c.child) cs ≡ 0)
  unfolding total
  rises_light lo hi [] h = (tt, refl)
  rises_light lo hi (c ∷ cs) h =
      let r = rises_light c.separator hi cs h.3 in
      let f = h.2.0 in ((h.0, h.1, h.2.1, r.0), grind (arith, nat_tests))

  pub ranges_light : (lo : List ℕ) (hi : Bound) (x : Tree n) (cs : List (Cell (Tree n)))
      → Ranges (Full n S) lo hi x cs → Ranges (Light n S) lo hi x cs × (wants (underfull n) x cs ≡ 0)
  ranges_light lo hi x cs h =
      let r = rises_light lo hi cs h.1 in let f = h.0.0 in ((h.0.1, r.0), grind (arith, nat_tests))

  rises_full : (lo : List ℕ) (hi : Bound) (cs : List (Cell (Tree n))) → Rises (Light n S) lo hi cs
      → total (λ c. lacks (underfull n) c.child) cs ≤ 0 → Rises (Full n S) lo hi cs
  unfolding total
  rises_full lo hi [] h w = tt
  rises_full lo hi (c ∷ cs) h w =
      let r = rises_full c.separator hi cs h.3 (omega arith) in (h.0, h.1, (grind (arith, nat_tests), h.2), r)

  pub ranges_full : (lo : List ℕ) (hi : Bound) (x : Tree n) (cs : List (Cell (Tree n)))
      → Ranges (Light n S) lo hi x cs → wants (underfull n) x cs ≤ 0 → Ranges (Full n S) lo hi x cs
  ranges_full lo hi x cs h w = ((grind (arith, nat_tests), h.0), rises_full lo hi cs h.1 (omega arith))

-- an edit of the pairs that keeps a leaf sound, and adds at most one pair's cost
pub record Edits (e : List Pair → List Pair) (k : List ℕ) : Type 0 where
  pub keeps : (lo : List ℕ) (hi : Bound) (ps : List Pair) → AtMost lo k → Under k hi → Strict zero lo hi ps
      → Strict zero lo hi (e ps)
  pub costs : (ps : List Pair) → total pair_cost (e ps) ≤ total pair_cost ps + largest_pair

pub full_forked : (n : ℕ) (t : Tree n) → underfull n t ≡ false → Forked n t
full_forked zero t u = tt
full_forked (suc n) t u = total_some cell_cost t.rest (grind (arith, nat_tests))

pub edit_strict : (e : List Pair → List Pair) (k : List ℕ) → Edits e k
    → (n : ℕ) (lo : List ℕ) (hi : Bound) (t : Tree n) → AtMost lo k → Under k hi → Forked n t
    → Light n (Strict n) lo hi t
    → Good (underfull n) (Light n (Strict n)) lo hi (edit e k n t)
unfolding edit
edit_strict e k ed zero lo hi t p q f h =
    let d = ed.costs t in (fit_strict zero lo hi (e t) (ed.keeps lo hi t p q h.1) (let c = h.0 in omega arith)).0
edit_strict e k ed (suc n) lo hi t p q f h =
    let l = ranges_light n (Strict n) lo hi t.first t.rest h.1.0 in
    let a = place_kept (underfull n) (Light n (Strict n)) k (edit e k n) (λ lo' hi' x p' q' u s. edit_strict e k ed n lo' hi' x p' q' (full_forked n x u) s) lo hi t.first t.rest p q l.0 h.1.1 l.1 in
    let b = place (edit e k n) k t.first t.rest in
    let c = mend_kept (underfull n) (Light n (Strict n)) (join n) (join_strict n) lo hi b.first b.rest a.spans a.seps a.few (λ z. let g = a.long in let bad : ⊥ = omega arith in absurd bad) in
    let m = c.costs in let m' = a.costs in let h0 = h.0 in
    (fit_strict (suc n) lo hi (mended (underfull n) (join n) b) (ranges_full n (Strict n) lo hi _ _ c.spans c.few, c.seps) (omega arith)).0

-- The edits that there are.
pub insert_cost : (k v : List ℕ) → length k ≤ 64 → length v ≤ 128 → (ps : List Pair)
    → total pair_cost (insert k v ps) ≤ total pair_cost ps + largest_pair
unfolding insert total
insert_cost k v a b [] = omega arith
insert_cost k v a b (p ∷ ps) = let r = insert_cost k v a b ps in grind arith

pub delete_cost : (k : List ℕ) (ps : List Pair) → total pair_cost (delete k ps) ≤ total pair_cost ps
unfolding delete total
delete_cost k [] = omega arith
delete_cost k (p ∷ ps) = let r = delete_cost k ps in grind arith

pub insert_edits : (k v : List ℕ) → KeyFits k → length v ≤ 128 → Edits (insert k v) k
insert_edits k v a b = record {
  keeps =
      λ lo hi ps p q h. (insert_rising k v ps h.0, all_insert _ k v ps (p, q) h.1, all_insert _ k v ps (a, b) h.2);
  costs = insert_cost k v a.1 b;
}

pub delete_edits : (k : List ℕ) → Edits (delete k) k
delete_edits k = record {
  keeps = λ lo hi ps p q h. (delete_rising k ps h.0, all_delete _ k ps h.1, all_delete _ k ps h.2);
  costs = λ ps. let d = delete_cost k ps in omega arith;
}

-- The root.
pub not_under : (n : ℕ) (t : Tree n) → underfull n t ≡ false → quarter ≤ cost n t
not_under n t u = grind (arith, nat_tests)

pub under_no : (n : ℕ) (t : Tree n) → quarter ≤ cost n t → underfull n t ≡ false
under_no n t u = grind (arith, nat_tests)

pub give_way_strict : (n : ℕ) (x : Tree n) (cs : List (Cell (Tree n))) → total cell_cost cs ≤ usable
    → Ranges (Full n (Strict n)) [] none x cs → CellsFit cs → StrictTree (give_way n x cs)
give_way_strict n x [] m h z = (h.0.1, full_forked n x (under_no n x h.0.0))
give_way_strict n x (c ∷ cs) m h z = ((m, (h, z)), omega arith)

pub rooted_strict : (n : ℕ) (g : Grown (Tree n)) → Good (underfull n) (Light n (Strict n)) [] none g
    → StrictTree (rooted n g)
unfolding total
rooted_strict zero (one t) h = (h, tt)
rooted_strict (suc n) (one t) h = give_way_strict n t.first t.rest h.0 h.1.0 h.1.1
rooted_strict n (two l s r) h =
    ((omega arith, (((not_under n l h.5, h.3), (h.0, h.1, (not_under n r h.6, h.4), tt)), (h.2, tt))), omega arith)

pub the_empty_tree_is_sound_lem : TheEmptyTreeIsSound
unfolding total
the_empty_tree_is_sound_lem = ((omega arith, (tt, tt, tt)), tt)

pub edits_keep_trees_sound_lem : EditsKeepTreesSound
edits_keep_trees_sound_lem b h = (
  λ k v f l. kept (insert k v) k (insert_edits k v f l),
  λ k. kept (delete k) k (delete_edits k),
)
  where
    kept : (e : List Pair → List Pair) (k : List ℕ) → Edits e k
        → SoundTree (rooted b.height (edit e k b.height b.root))
    kept e k ed =
        let s = strict_tree b h in
        sound_tree _ (rooted_strict b.height _ (edit_strict e k ed b.height [] none b.root (less_nil k) tt s.1 s.0))
