-- The steps at a branch, by the number of the child.
use Rattle.std.proofs.Common.{◌≡◌, ℕ, zero, suc, ◌<◌, ◌≤◌, Bool, true, false, cond, List, [], ◌∷◌, ◌++◌, length, get_or, take, drop, refl, ap, ◌∙◌, arith}
use Rattle.cuts.specs.Keys.{key<, AtMost}
use Rattle.cuts.specs.Nodes.{Cell, Branch}
use Rattle.cuts.specs.Cuts.{total}
use Rattle.tree.specs.Trees.{branch}
use Rattle.tree.specs.Edits.{Grown, one, two, in_place, prepend, place, mend, mended}
use Rattle.tree.specs.Sound.{Bound, before, Under}
use Rattle.tree.specs.Search.{picked, child_at}
use Rattle.tree.specs.Places.{separator_at, splice, splice_two, join_at, repair_at}
use Rattle.tree.proofs.Strict.{Ranges}
use Rattle.tree.proofs.Around.{wants}

pub picked_within : {X : Type 0} (k : List ℕ) (cs : List (Cell X)) → picked k cs ≤ length cs
picked_within k [] = omega arith
picked_within k (c ∷ cs) = let r = picked_within k cs in grind arith

-- what holds of the child that k lies under
pub at_picked : {X : Type 0} (L : List ℕ → Bound → X → Type 0) (P : X → Type 0) (k : List ℕ)
    → ((lo : List ℕ) (hi : Bound) (x : X) → AtMost lo k → Under k hi → L lo hi x → P x)
    → (lo : List ℕ) (hi : Bound) (x : X) (cs : List (Cell X)) → AtMost lo k → Under k hi → Ranges L lo hi x cs
    → P (child_at (picked k cs) x cs)
at_picked L P k f lo hi x [] p q h = f lo hi x p q h.0
at_picked L P k f lo hi x (c ∷ cs) p q h =
    by (key< k c.separator) refl (λ t. at_picked L P k f c.separator hi c.child cs t q (h.1.2, h.1.3))
  where
    by : (t : Bool) → key< k c.separator ≡ t → (AtMost c.separator k → P (child_at (picked k cs) c.child cs))
        → P (child_at (cond t 0 (suc (picked k cs))) x (c ∷ cs))
    by true t r = f lo (before c.separator) x p t h.0
    by false t r = r t

-- the edit at the child that k lies under
pub place_at : {X : Type 0} (e : X → Grown X) (k : List ℕ) (x : X) (cs : List (Cell X))
    → place e k x cs ≡ splice (picked k cs) (e (child_at (picked k cs) x cs)) x cs
unfolding place
place_at e k x [] = refl
place_at e k x (c ∷ cs) = let r = place_at e k c.child cs in grind arith

-- where no child is underfull, nothing is joined
pub mend_none : {X : Type 0} (under : X → Bool) (j : X → List ℕ → X → Grown X) (x : X) (cs : List (Cell X))
    → wants under x cs ≡ 0 → mend under j x cs ≡ branch x cs
unfolding mend total
mend_none under j x [] w = refl
mend_none under j x (c ∷ cs) w = let r = mend_none under j c.child cs (omega arith) in grind arith

prepend_cond : {X : Type 0} (x : X) (s : List ℕ) (t : Bool) (a b : Branch X)
    → prepend x s (cond t a b) ≡ cond t (prepend x s a) (prepend x s b)
prepend_cond x s true a b = refl
prepend_cond x s false a b = refl

-- what came in place of a child is not underfull where it is two nodes
abbrev pub Settled : {X : Type 0} → (X → Bool) → Grown X → Type 0
Settled under (one y) = Unit {0}
Settled under (two l s r) = (under l ≡ false) × (under r ≡ false)

module _ {X : Type 0} (under : X → Bool) (j : X → List ℕ → X → Grown X) where
  mend_skip : (x : X) (s : List ℕ) (b : Branch X) → under x ≡ false → under b.first ≡ false
      → mended under j (prepend x s b) ≡ prepend x s (mended under j b)
  unfolding mend
  mend_skip x s b u v = rw (u, v)

  -- an underfull child is joined, where its neighbours are not underfull
  mend_one : (i : ℕ) (y x : X) (cs : List (Cell X)) → i ≤ length cs → 0 < length cs → wants under x cs ≡ 0
      → mended under j (splice i (one y) x cs) ≡ cond (under y) (join_at j i y x cs) (splice i (one y) x cs)
  unfolding mend total
  mend_one i y x [] l n w = let bad : ⊥ = omega arith in absurd bad
  mend_one zero y x (c ∷ cs) l n w = let r = mend_none under j c.child cs (omega arith) in grind arith
  mend_one (suc zero) y x (c ∷ []) l n w = grind arith
  mend_one (suc zero) y x (c ∷ d ∷ cs) l n w = let r = mend_none under j d.child cs (omega arith) in grind arith
  mend_one (suc (suc i)) y x (c ∷ []) l n w = let bad : ⊥ = omega arith in absurd bad
  mend_one (suc (suc i)) y x (c ∷ d ∷ cs) l n w =
      let u : under x ≡ false = grind arith in
      let v : under c.child ≡ false = grind arith in
      let r = mend_one (suc i) y c.child (d ∷ cs) (omega arith) (omega arith) (omega arith) in
      mend_skip x c.separator (splice (suc i) (one y) c.child (d ∷ cs)) u v ∙ (ap (prepend x c.separator) r ∙ prepend_cond x c.separator (under y) _ _)

  -- two nodes that are not underfull are left alone
  wants_two : (i : ℕ) (a b x : X) (s : List ℕ) (cs : List (Cell X)) → i ≤ length cs → under a ≡ false
      → under b ≡ false → wants under x cs ≡ 0
      → wants under (splice i (two a s b) x cs).first (splice i (two a s b) x cs).rest ≡ 0
  unfolding total
  wants_two zero a b x s cs l p q w = grind arith
  wants_two (suc i) a b x s [] l p q w = let bad : ⊥ = omega arith in absurd bad
  wants_two (suc i) a b x s (c ∷ cs) l p q w =
      let r = wants_two i a b c.child s cs (omega arith) p q (omega arith) in omega arith

  pub mend_splice : (i : ℕ) (g : Grown X) (x : X) (cs : List (Cell X)) → i ≤ length cs → 0 < length cs
      → Settled under g → wants under x cs ≡ 0
      → mended under j (splice i g x cs) ≡ repair_at under j i g x cs
  mend_splice i (one y) x cs l n s w = mend_one i y x cs l n w
  mend_splice i (two a s b) x cs l n h w = mend_none under j _ _ (wants_two i a b x s cs l h.0 h.1 w)

  -- so the edit of a child and the mending after it go by its place
  pub mend_place : (e : X → Grown X) (k : List ℕ) (x : X) (cs : List (Cell X)) → 0 < length cs
      → Settled under (e (child_at (picked k cs) x cs)) → wants under x cs ≡ 0
      → mended under j (place e k x cs) ≡ repair_at under j (picked k cs) (e (child_at (picked k cs) x cs)) x cs
  mend_place e k x cs n s w =
      rw (place_at e k x cs) (mend_splice (picked k cs) (e (child_at (picked k cs) x cs)) x cs (picked_within k cs) n s w)

-- the places in the list of cells; d is any cell
module _ {X : Type 0} (d : Cell X) where
  pub child_at_cell : (i : ℕ) (x : X) (cs : List (Cell X)) → i < length cs → child_at (suc i) x cs ≡ (get_or cs i d).child
  child_at_cell i x [] l = let bad : ⊥ = omega arith in absurd bad
  child_at_cell zero x (c ∷ cs) l = refl
  child_at_cell (suc i) x (c ∷ cs) l = child_at_cell i c.child cs (omega arith)

  pub separator_at_cell : (i : ℕ) (cs : List (Cell X)) → i < length cs → separator_at i cs ≡ (get_or cs i d).separator
  separator_at_cell i [] l = let bad : ⊥ = omega arith in absurd bad
  separator_at_cell zero (c ∷ cs) l = refl
  separator_at_cell (suc i) (c ∷ cs) l = separator_at_cell i cs (omega arith)

  pub splice_cells : (i : ℕ) (g : Grown X) (x : X) (cs : List (Cell X)) → i < length cs
      → splice (suc i) g x cs ≡ branch x (take i cs ++ (prepend x (get_or cs i d).separator (in_place g (drop (suc i) cs))).rest)
  splice_cells i g x [] l = let bad : ⊥ = omega arith in absurd bad
  splice_cells zero g x (c ∷ cs) l = refl
  splice_cells (suc i) g x (c ∷ cs) l = let r = splice_cells i g c.child cs (omega arith) in rw r

  pub splice_two_cells : (i : ℕ) (g : Grown X) (x : X) (cs : List (Cell X)) → suc i < length cs
      → splice_two (suc i) g x cs ≡ branch x (take i cs ++ (prepend x (get_or cs i d).separator (in_place g (drop (suc (suc i)) cs))).rest)
  splice_two_cells i g x [] l = let bad : ⊥ = omega arith in absurd bad
  splice_two_cells zero g x (c ∷ []) l = let bad : ⊥ = omega arith in absurd bad
  splice_two_cells zero g x (c ∷ b ∷ cs) l = refl
  splice_two_cells (suc i) g x (c ∷ cs) l = let r = splice_two_cells i g c.child cs (omega arith) in rw r
