-- The steps at a branch do not look into the children: they commute with any function of them.
use Rattle.std.proofs.Common.{◌≡◌, ℕ, zero, suc, ◌+◌, Bool, true, false, cond, leb, List, [], ◌∷◌, map, take, drop, sym, refl, ap, ◌∙◌, arith}
use Rattle.std.proofs.lemmas.List.{take-map, drop-map, map-append}
use Rattle.cuts.specs.Keys.{key<}
use Rattle.cuts.specs.Nodes.{Cell, Branch, cell_cost}
use Rattle.cuts.specs.Cuts.{total, middle}
use Rattle.cuts.specs.Sizes.{usable}
use Rattle.tree.specs.Trees.{branch_cost}
use Rattle.tree.specs.Edits.{Grown, one, two, give_up, cut_branch, fit, merge_branches, in_place, prepend, place, mend}
use Rattle.tree.specs.Search.{picked, child_at}
use Rattle.tree.specs.Places.{separator_at, splice, splice_two, map_cell, map_branch, map_grown}
use Rattle.tree.specs.Laws.{StepsCommute, StepsCommuteWithReading}

module _ {X Y : Type 0} (f : X → Y) where
  -- costs, places and lists
  total_map : (cs : List (Cell X)) → total cell_cost (map (map_cell f) cs) ≡ total cell_cost cs
  unfolding total
  total_map [] = refl
  total_map (c ∷ cs) = let r = total_map cs in omega arith

  middle_map : (t a : ℕ) (cs : List (Cell X)) → middle cell_cost t a (map (map_cell f) cs) ≡ middle cell_cost t a cs
  unfolding middle
  middle_map t a [] = refl
  middle_map t a (c ∷ cs) = let r = middle_map t (a + cell_cost c) cs in rw r

  pub picked_map : (k : List ℕ) (cs : List (Cell X)) → picked k (map (map_cell f) cs) ≡ picked k cs
  picked_map k [] = refl
  picked_map k (c ∷ cs) = let r = picked_map k cs in rw r

  pub child_at_map : (i : ℕ) (x : X) (cs : List (Cell X)) → f (child_at i x cs) ≡ child_at i (f x) (map (map_cell f) cs)
  child_at_map zero x cs = refl
  child_at_map (suc i) x [] = refl
  child_at_map (suc i) x (c ∷ cs) = child_at_map i c.child cs

  pub separator_at_map : (i : ℕ) (cs : List (Cell X)) → separator_at i (map (map_cell f) cs) ≡ separator_at i cs
  separator_at_map i [] = refl
  separator_at_map zero (c ∷ cs) = refl
  separator_at_map (suc i) (c ∷ cs) = separator_at_map i cs

  -- cut and join
  give_up_map : (x : X) (bs cs : List (Cell X))
      → map_grown (map_branch f) (give_up x bs cs) ≡ give_up (f x) (map (map_cell f) bs) (map (map_cell f) cs)
  give_up_map x bs [] = refl
  give_up_map x bs (c ∷ cs) = refl

  pub cut_map : (b : Branch X) → map_grown (map_branch f) (cut_branch b) ≡ cut_branch (map_branch f b)
  cut_map b =
      let t = total_map b.rest in
      let m = middle_map (total cell_cost b.rest) 0 b.rest in
      let i = middle cell_cost (total cell_cost b.rest) 0 b.rest in
      rw (t, m) (give_up_map b.first (take i b.rest) (drop i b.rest) ∙ (rw (← take-map (map_cell f) i b.rest, ← drop-map (map_cell f) i b.rest)))

  pub fit_map : (b : Branch X)
      → map_grown (map_branch f) (fit branch_cost cut_branch b) ≡ fit branch_cost cut_branch (map_branch f b)
  unfolding fit
  fit_map b =
      by (leb (branch_cost b) usable) ∙ ap (λ n. cond (leb n usable) (one (map_branch f b)) (cut_branch (map_branch f b))) (sym (total_map b.rest))
    where
      by : (t : Bool)
          → map_grown (map_branch f) (cond t (one b) (cut_branch b)) ≡ cond t (one (map_branch f b)) (cut_branch (map_branch f b))
      by true = refl
      by false = cut_map b

  pub merge_map : (l : Branch X) (s : List ℕ) (r : Branch X)
      → map_branch f (merge_branches l s r) ≡ merge_branches (map_branch f l) s (map_branch f r)
  merge_map l s r = rw map-append

  -- place and mend
  pub in_place_map : (g : Grown X) (cs : List (Cell X))
      → map_branch f (in_place g cs) ≡ in_place (map_grown f g) (map (map_cell f) cs)
  in_place_map (one x) cs = refl
  in_place_map (two l s r) cs = refl

  pub place_map : (e : X → Grown X) (e' : Y → Grown Y) (k : List ℕ) → ((x : X) → map_grown f (e x) ≡ e' (f x))
      → (x : X) (cs : List (Cell X)) → map_branch f (place e k x cs) ≡ place e' k (f x) (map (map_cell f) cs)
  unfolding place
  place_map e e' k h x [] = in_place_map (e x) [] ∙ ap (λ (g : Grown Y). in_place g []) (h x)
  place_map e e' k h x (c ∷ cs) =
      elim (key< k c.separator) as
      (λ t. map_branch f (cond t (in_place (e x) (c ∷ cs)) (prepend x c.separator (place e k c.child cs)))
      ≡ cond t (in_place (e' (f x)) (map (map_cell f) (c ∷ cs))) (prepend (f x) c.separator (place e' k (f c.child) (map (map_cell f) cs)))) [
        | true ↦ in_place_map (e x) (c ∷ cs) ∙ ap (λ (g : Grown Y). in_place g (map (map_cell f) (c ∷ cs))) (h x)
        | false ↦ ap (prepend (f x) c.separator) (place_map e e' k h c.child cs)
      ]

  pub mend_map : (under : X → Bool) (under' : Y → Bool) (j : X → List ℕ → X → Grown X) (j' : Y → List ℕ → Y → Grown Y)
      → ((x : X) → under x ≡ under' (f x)) → ((l : X) (s : List ℕ) (r : X) → map_grown f (j l s r) ≡ j' (f l) s (f r))
      → (x : X) (cs : List (Cell X)) → map_branch f (mend under j x cs) ≡ mend under' j' (f x) (map (map_cell f) cs)
  unfolding mend
  mend_map under under' j j' u h x [] = refl
  mend_map under under' j j' u h x (c ∷ cs) =
      let r = mend_map under under' j j' u h c.child cs in
      let m = in_place_map (j x c.separator c.child) cs in
      let p = h x c.separator c.child in
      let a = u x in let b = u c.child in
      grind arith

  -- by place
  pub splice_map : (i : ℕ) (g : Grown X) (x : X) (cs : List (Cell X))
      → map_branch f (splice i g x cs) ≡ splice i (map_grown f g) (f x) (map (map_cell f) cs)
  splice_map zero g x cs = in_place_map g cs
  splice_map (suc i) g x [] = refl
  splice_map (suc i) g x (c ∷ cs) = ap (prepend (f x) c.separator) (splice_map i g c.child cs)

  pub splice_two_map : (i : ℕ) (g : Grown X) (x : X) (cs : List (Cell X))
      → map_branch f (splice_two i g x cs) ≡ splice_two i (map_grown f g) (f x) (map (map_cell f) cs)
  splice_two_map i g x [] = refl
  splice_two_map zero g x (c ∷ cs) = in_place_map g cs
  splice_two_map (suc i) g x (c ∷ cs) = ap (prepend (f x) c.separator) (splice_two_map i g c.child cs)

  pub steps_commute : StepsCommute f
  steps_commute = record {
    fitting = fit_map;
    merging = merge_map;
    placing = λ e e' k h b. place_map e e' k h b.first b.rest;
    mending = λ under under' j j' u h b. mend_map under under' j j' u h b.first b.rest;
    picking = λ k b. picked_map k b.rest;
    descending = λ i b. child_at_map i b.first b.rest;
    splicing = λ i g b. splice_map i g b.first b.rest;
    splicing_two = λ i g b. splice_two_map i g b.first b.rest;
  }

pub steps_commute_with_reading_lem : StepsCommuteWithReading
steps_commute_with_reading_lem n read = steps_commute read
