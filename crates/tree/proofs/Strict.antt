-- Sound trees with strict bounds: a branch's first separator is above its lower bound, and not only at least there.
-- The proofs work on these. Every sound tree is one, because no leaf under a branch is empty.
use Rattle.std.proofs.Common.{ℕ, zero, suc, List, [], ◌∷◌, arith}
use Rattle.std.specs.List.{AllByRecursion}
use Rattle.cuts.specs.Keys.{Below}
use Rattle.cuts.specs.Nodes.{Cell, PairFits, CellFits}
use Rattle.cuts.specs.Cuts.{total}
use Rattle.cuts.proofs.Order.{less_trans, most_less, most_from_less}
use Rattle.tree.specs.Maps.{Rising}
use Rattle.tree.specs.Trees.{Tree, BTree}
use Rattle.tree.specs.Sound.{Bound, none, before, Under, Within, top, Rest, Spans, Light, Full, Sound, Forked, SoundTree}

pub under_trans : (a b : List ℕ) (hi : Bound) → Below a b → Under b hi → Under a hi
under_trans a b none p q = tt
under_trans a b (before s) p q = less_trans a b s p q

-- separators rise from above lo to under hi, and S holds of each child between the separators around it
abbrev pub Rises : {X : Type 0} → (List ℕ → Bound → X → Type 0) → List ℕ → Bound → List (Cell X) → Type 0
Rises S lo hi [] = Unit {0}
Rises S lo hi (c ∷ cs) =
    Below lo c.separator × Under c.separator hi × S c.separator (top hi cs) c.child × Rises S c.separator hi cs

abbrev pub Ranges : {X : Type 0} → (List ℕ → Bound → X → Type 0) → List ℕ → Bound → X → List (Cell X) → Type 0
Ranges S lo hi x cs = S lo (top hi cs) x × Rises S lo hi cs

abbrev pub Ordered : (n : ℕ) → List ℕ → Bound → Tree n → Type 0
Ordered zero lo hi t = Rising t × Within lo hi t
Ordered (suc n) lo hi t = Ranges (Ordered n) lo hi t.first t.rest

abbrev pub Strict : (n : ℕ) → List ℕ → Bound → Tree n → Type 0
Strict zero lo hi t = Rising t × Within lo hi t × AllByRecursion PairFits t
Strict (suc n) lo hi t = Ranges (Full n (Strict n)) lo hi t.first t.rest × AllByRecursion CellFits t.rest

abbrev pub StrictTree : BTree → Type 0
StrictTree b = Light b.height (Strict b.height) [] none b.root × Forked b.height b.root

-- a key below the next separator is below all that follow
under_top : {X : Type 0} (S : List ℕ → Bound → X → Type 0) (s : List ℕ) (hi : Bound) (cs : List (Cell X))
    → Under s (top hi cs) → Rest S s hi cs → Under s hi
under_top S s hi [] p h = p
under_top S s hi (c ∷ cs) p h = under_trans s c.separator hi p (under_top S c.separator hi cs h.1 h.3)

-- a strict tree is sound
module _ {X : Type 0} (S R : List ℕ → Bound → X → Type 0) (f : (lo : List ℕ) (hi : Bound) (x : X) → S lo hi x → R lo hi x) where
  pub rises_weaker : (lo : List ℕ) (hi : Bound) (cs : List (Cell X)) → Rises S lo hi cs → Rises R lo hi cs
  rises_weaker lo hi [] h = tt
  rises_weaker lo hi (c ∷ cs) h = (h.0, h.1, f _ _ _ h.2, rises_weaker c.separator hi cs h.3)

  under_next : (s : List ℕ) (hi : Bound) (cs : List (Cell X)) → Under s hi → Rises S s hi cs → Under s (top hi cs)
  under_next s hi [] p h = p
  under_next s hi (c ∷ cs) p h = h.0

  rises_rest : (lo : List ℕ) (hi : Bound) (cs : List (Cell X)) → Rises S lo hi cs → Rest R lo hi cs
  rises_rest lo hi [] h = tt
  rises_rest lo hi (c ∷ cs) h = (
    most_from_less lo c.separator h.0,
    under_next c.separator hi cs h.1 h.3,
    f _ _ _ h.2,
    rises_rest c.separator hi cs h.3,
  )

  -- and back, where no child is without keys
  module _ (gap : (lo s : List ℕ) (x : X) → S lo (before s) x → Below lo s) where
    rest_rises : (lo : List ℕ) (hi : Bound) (x : X) (cs : List (Cell X)) → Spans S lo hi x cs → Rises R lo hi cs
    rest_rises lo hi x [] h = tt
    rest_rises lo hi x (c ∷ cs) h = (
      gap lo c.separator x h.0,
      under_top S c.separator hi cs h.1.1 h.1.3,
      f _ _ _ h.1.2,
      rest_rises c.separator hi c.child cs (h.1.2, h.1.3),
    )

pub sound_from_strict : (n : ℕ) (lo : List ℕ) (hi : Bound) (t : Tree n) → Strict n lo hi t → Sound n lo hi t
sound_from_strict zero lo hi t h = h
sound_from_strict (suc n) lo hi t h =
    let f : (lo' : List ℕ) (hi' : Bound) (x : Tree n) → Full n (Strict n) lo' hi' x → Full n (Sound n) lo' hi' x =
    λ lo' hi' x s. (s.0, (s.1.0, sound_from_strict n lo' hi' x s.1.1)) in
    ((f _ _ _ h.0.0, rises_rest (Full n (Strict n)) (Full n (Sound n)) f lo hi t.rest h.0.1), h.1)

-- a node that is not underfull has a key from its lower bound on
spans_gap : {X : Type 0} (S : List ℕ → Bound → X → Type 0) (lo s : List ℕ) (x : X) (cs : List (Cell X))
    → ((r : List ℕ) → S lo (before r) x → Below lo r)
    → Spans S lo (before s) x cs → Below lo s
spans_gap S lo s x [] g h = g s h.0
spans_gap S lo s x (c ∷ cs) g h =
    less_trans lo c.separator s (g c.separator h.0) (under_top S c.separator (before s) cs h.1.1 h.1.3)

gap : (n : ℕ) (lo s : List ℕ) (t : Tree n) → Full n (Sound n) lo (before s) t → Below lo s
unfolding total
gap zero lo s [] h = let bad : ⊥ = omega arith in absurd bad
gap zero lo s (p ∷ ps) h = most_less lo p.key s h.1.1.1.0.0 h.1.1.1.0.1
gap (suc n) lo s t h = spans_gap (Full n (Sound n)) lo s t.first t.rest (λ r. gap n lo r t.first) h.1.1.0

pub strict_from_sound : (n : ℕ) (lo : List ℕ) (hi : Bound) (t : Tree n) → Sound n lo hi t → Strict n lo hi t
strict_from_sound zero lo hi t h = h
strict_from_sound (suc n) lo hi t h =
    let f : (lo' : List ℕ) (hi' : Bound) (x : Tree n) → Full n (Sound n) lo' hi' x → Full n (Strict n) lo' hi' x =
    λ lo' hi' x s. (s.0, (s.1.0, strict_from_sound n lo' hi' x s.1.1)) in
    ((f _ _ _ h.0.0, rest_rises (Full n (Sound n)) (Full n (Strict n)) f (gap n) lo hi t.first t.rest h.0), h.1)

pub strict_tree : (b : BTree) → SoundTree b → StrictTree b
strict_tree b h = ((h.0.0, strict_from_sound b.height [] none b.root h.0.1), h.1)

pub sound_tree : (b : BTree) → StrictTree b → SoundTree b
sound_tree b h = ((h.0.0, sound_from_strict b.height [] none b.root h.0.1), h.1)

-- and in order
pub strict_ordered : (n : ℕ) (lo : List ℕ) (hi : Bound) (t : Tree n) → Strict n lo hi t → Ordered n lo hi t
strict_ordered zero lo hi t h = (h.0, h.1)
strict_ordered (suc n) lo hi t h =
    let f : (lo' : List ℕ) (hi' : Bound) (x : Tree n) → Full n (Strict n) lo' hi' x → Ordered n lo' hi' x =
    λ lo' hi' x s. strict_ordered n lo' hi' x s.1.1 in
    (f _ _ _ h.0.0, rises_weaker (Full n (Strict n)) (Ordered n) f lo hi t.rest h.0.1)

pub ordered : (b : BTree) → SoundTree b → Ordered b.height [] none b.root
ordered b h = strict_ordered b.height [] none b.root (strict_from_sound b.height [] none b.root h.0.1)
