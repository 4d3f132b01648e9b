-- Soundness through the steps at a branch, whatever the children are.
use Rattle.std.proofs.Common.{◌≡◌, ℕ, suc, ◌+◌, ◌≤◌, Bool, true, false, cond, ◌||◌, List, [], ◌∷◌, ◌++◌, length, refl, arith}
use Rattle.std.specs.List.{AllByRecursion}
use Rattle.cuts.specs.Keys.{key<, Below, AtMost, KeyFits}
use Rattle.cuts.specs.Nodes.{Cell, Branch, CellFits, cell_cost}
use Rattle.cuts.specs.Cuts.{total}
use Rattle.cuts.specs.Sizes.{largest_cell}
use Rattle.cuts.proofs.Order.{less_trans}
use Rattle.tree.specs.Trees.{cell}
use Rattle.tree.specs.Edits.{Grown, one, two, in_place, prepend, place, mend}
use Rattle.tree.specs.Sound.{Bound, before, Under, top}
use Rattle.tree.proofs.Strict.{under_trans, Rises, Ranges}

module _ {X : Type 0} (L : List ℕ → Bound → X → Type 0) where
  -- the cells from a separator on
  pub ranges_split : (lo : List ℕ) (hi : Bound) (x : X) (bs : List (Cell X)) (c : Cell X) (cs : List (Cell X))
      → Ranges L lo hi x (bs ++ c ∷ cs)
      → Below lo c.separator × Under c.separator hi × Ranges L lo (before c.separator) x bs × Ranges L c.separator hi c.child cs
  ranges_split lo hi x [] c cs h = (h.1.0, h.1.1, (h.0, tt), (h.1.2, h.1.3))
  ranges_split lo hi x (b ∷ bs) c cs h =
      let r = ranges_split b.separator hi b.child bs c cs (h.1.2, h.1.3) in
      (less_trans lo b.separator c.separator h.1.0 r.0, r.1, (h.0, (h.1.0, r.0, r.2.0, r.2.1)), r.3)

  pub ranges_merge : (lo s : List ℕ) (hi : Bound) (x y : X) (bs cs : List (Cell X)) → Below lo s → Under s hi
      → Ranges L lo (before s) x bs → Ranges L s hi y cs
      → Ranges L lo hi x (bs ++ cell s y ∷ cs)
  ranges_merge lo s hi x y [] cs p q h k = (h.0, (p, q, k.0, k.1))
  ranges_merge lo s hi x y (b ∷ bs) cs p q h k =
      let r = ranges_merge b.separator s hi b.child y bs cs h.1.1 q (h.1.2, h.1.3) k in
      (h.0, (h.1.0, under_trans b.separator s hi h.1.1 q, r.0, r.1))

-- The children around an edit: how many of them are underfull
abbrev pub lacks : {X : Type 0} → (X → Bool) → X → ℕ
lacks under x = cond (under x) 1 0

abbrev pub wants : {X : Type 0} → (X → Bool) → X → List (Cell X) → ℕ
wants under x cs = lacks under x + total (λ c. lacks under c.child) cs

-- what an edit may leave of a child
abbrev pub Good : {X : Type 0} → (X → Bool) → (List ℕ → Bound → X → Type 0) → List ℕ → Bound → Grown X → Type 0
Good under L lo hi (one x) = L lo hi x
Good under L lo hi (two l s r) =
    Below lo s × Under s hi × KeyFits s × L lo (before s) l × L s hi r × (under l ≡ false) × (under r ≡ false)

-- the cells' separators fit
abbrev pub CellsFit : {X : Type 0} → List (Cell X) → Type 0
CellsFit cs = AllByRecursion CellFits cs

abbrev pub lacking : {X : Type 0} → (X → Bool) → Grown X → ℕ
lacking under (one x) = lacks under x
lacking under (two l s r) = 0

pub lacking_one : {X : Type 0} (under : X → Bool) (g : Grown X) → lacking under g ≤ 1
lacking_one under (one x) = grind arith
lacking_one under (two l s r) = omega arith

-- children from lo to hi, of which at most w are underfull; m bounds the cost of the cells, and there are at least n
pub record Placed {X : Type 0} (under : X → Bool) (L : List ℕ → Bound → X → Type 0) (lo : List ℕ) (hi : Bound) (w m n : ℕ) (b : Branch X) : Type 0 where
  pub spans : Ranges L lo hi b.first b.rest
  pub seps : CellsFit b.rest
  pub few : wants under b.first b.rest ≤ w
  pub costs : total cell_cost b.rest ≤ m
  pub long : n ≤ length b.rest

module _ {X : Type 0} (under : X → Bool) (L : List ℕ → Bound → X → Type 0) where
  -- the children put in place of one, before cells that go on from lo to hi
  pub in_place_kept : (lo : List ℕ) (hi : Bound) (w : ℕ) (g : Grown X) (cs : List (Cell X))
      → Good under L lo (top hi cs) g → Rises L lo hi cs → CellsFit cs
      → lacking under g + total (λ c. lacks under c.child) cs ≤ w
      → Placed under L lo hi w (total cell_cost cs + largest_cell) (length cs) (in_place g cs)
  unfolding total
  in_place_kept lo hi w (one x) cs g h z n =
      record { spans = (g, h); seps = z; few = n; costs = omega arith; long = omega arith }
  in_place_kept lo hi w (two l s r) [] g h z n =
      record { spans = (g.3, (g.0, g.1, g.4, tt)); seps = (g.2, z); few = grind arith; costs = omega arith; long = omega arith }
  in_place_kept lo hi w (two l s r) (c ∷ cs) g h z n =
      record { spans = (g.3, (g.0, under_trans s c.separator hi g.1 h.1, g.4, (g.1, h.1, h.2, h.3))); seps = (g.2, z); few = grind arith; costs = omega arith; long = omega arith }

  pub prepend_kept : (lo s : List ℕ) (hi : Bound) (w m m' n n' : ℕ) (x : X) (b : Branch X) → Below lo s → Under s hi
      → KeyFits s → L lo (before s) x → under x ≡ false
      → 8 + length s + m ≤ m' → n' ≤ suc n → Placed under L s hi w m n b
      → Placed under L lo hi w m' n' (prepend x s b)
  unfolding total
  prepend_kept lo s hi w m m' n n' x b p q k l u mm nn h =
      record { spans = (l, (p, q, h.spans.0, h.spans.1)); seps = (k, h.seps); few = let f = h.few in grind arith; costs = let f = h.costs in omega arith; long = let f = h.long in omega arith }

  placed_more : (lo : List ℕ) (hi : Bound) (w m m' n n' : ℕ) (b : Branch X) → m ≤ m' → n' ≤ n
      → Placed under L lo hi w m n b → Placed under L lo hi w m' n' b
  placed_more lo hi w m m' n n' b p q h =
      record { spans = h.spans; seps = h.seps; few = h.few; costs = let f = h.costs in omega arith; long = let f = h.long in omega arith }

  rises_lower : (lo s : List ℕ) (hi : Bound) (cs : List (Cell X)) → Below lo s → Rises L s hi cs → Rises L lo hi cs
  rises_lower lo s hi [] p h = tt
  rises_lower lo s hi (c ∷ cs) p h = (less_trans lo s c.separator p h.0, h.1, h.2, h.3)

  under_top : (s : List ℕ) (hi : Bound) (cs : List (Cell X)) → Under s hi → Rises L s hi cs → Under s (top hi cs)
  under_top s hi [] p h = p
  under_top s hi (c ∷ cs) p h = h.0

  -- the child that has k under it is edited
  pub place_kept : (k : List ℕ) (e : X → Grown X)
      → ((lo : List ℕ) (hi : Bound) (x : X) → AtMost lo k → Under k hi → under x ≡ false → L lo hi x → Good under L lo hi (e x))
      → (lo : List ℕ) (hi : Bound) (x : X) (cs : List (Cell X)) → AtMost lo k → Under k hi → Ranges L lo hi x cs
      → CellsFit cs → wants under x cs ≡ 0
      → Placed under L lo hi 1 (total cell_cost cs + largest_cell) (length cs) (place e k x cs)
  unfolding place total
  place_kept k e ke lo hi x [] p q h z w =
      let l = lacking_one under (e x) in
      in_place_kept lo hi 1 (e x) [] (ke lo hi x p q (grind arith) h.0) tt tt (omega arith)
  place_kept k e ke lo hi x (c ∷ cs) p q h z w =
      by (key< k c.separator) refl (λ t. place_kept k e ke c.separator hi c.child cs t q (h.1.2, h.1.3) z.1 (omega arith))
    where
      by : (t : Bool) → key< k c.separator ≡ t
          → (AtMost c.separator k → Placed under L c.separator hi 1 (total cell_cost cs + largest_cell) (length cs) (place e k c.child cs))
          → Placed under L lo hi 1 (total cell_cost (c ∷ cs) + largest_cell) (length (c ∷ cs)) (cond t (in_place (e x) (c ∷ cs)) (prepend x c.separator (place e k c.child cs)))
      by true t r =
          let l = lacking_one under (e x) in
          in_place_kept lo hi 1 (e x) (c ∷ cs) (ke lo (before c.separator) x p t (grind arith) h.0) h.1 z (omega arith)
      by false t r =
          prepend_kept lo c.separator hi 1 (total cell_cost cs + largest_cell) _ (length cs) _ x _ h.1.0 h.1.1 z.0 h.0 (grind arith) (omega arith) (omega arith) (r t)

  -- the underfull child is joined with a neighbour
  pub mend_kept : (j : X → List ℕ → X → Grown X)
      → ((lo s : List ℕ) (hi : Bound) (l r : X) → Below lo s → Under s hi → KeyFits s → L lo (before s) l → L s hi r → lacks under l + lacks under r ≡ 1
      → Good under L lo hi (j l s r) × (lacking under (j l s r) ≡ 0))
      → (lo : List ℕ) (hi : Bound) (x : X) (cs : List (Cell X)) → Ranges L lo hi x cs → CellsFit cs
      → wants under x cs ≤ 1 → (length cs ≡ 0 → under x ≡ false)
      → Placed under L lo hi 0 (total cell_cost cs + largest_cell) 0 (mend under j x cs)
  unfolding mend total
  mend_kept j jg lo hi x [] h z w v =
      record { spans = h; seps = tt; few = let u = v refl in grind arith; costs = omega arith; long = omega arith }
  mend_kept j jg lo hi x (c ∷ cs) h z w v =
      by (under x || under c.child) refl (λ u t. mend_kept j jg c.separator hi c.child cs (h.1.2, h.1.3) z.1 (grind arith) (λ _. t))
    where
      by : (t : Bool) → (under x || under c.child) ≡ t
          → (under x ≡ false → under c.child ≡ false → Placed under L c.separator hi 0 (total cell_cost cs + largest_cell) 0 (mend under j c.child cs))
          → Placed under L lo hi 0 (total cell_cost (c ∷ cs) + largest_cell) 0 (cond t (in_place (j x c.separator c.child) cs) (prepend x c.separator (mend under j c.child cs)))
      by true t r =
          let one' : lacks under x + lacks under c.child ≡ 1 = grind arith in
          let g = jg lo c.separator (top hi cs) x c.child h.1.0 (under_top c.separator hi cs h.1.1 h.1.3) z.0 h.0 h.1.2 one' in
          let l = g.1 in
          placed_more lo hi 0 _ _ _ _ _ (omega arith) (omega arith)
          (in_place_kept lo hi 0 (j x c.separator c.child) cs g.0 (rises_lower lo c.separator hi cs h.1.0 h.1.3) z.1 (omega arith))
      by false t r =
          let u : under x ≡ false = grind arith in
          let v : under c.child ≡ false = grind arith in
          prepend_kept lo c.separator hi 0 (total cell_cost cs + largest_cell) _ 0 _ x _ h.1.0 h.1.1 z.0 h.0 u (omega arith) (omega arith) (r u v)
