-- Sound trees.
use Rattle.std.specs.Prelude.{ℕ, zero, suc, ◌<◌, ◌≤◌, List, [], ◌∷◌, length}
use Rattle.std.specs.List.{AllByRecursion}
use Rattle.cuts.specs.Keys.{Below, AtMost}
use Rattle.cuts.specs.Nodes.{Pair, Cell, PairFits, CellFits}
use Rattle.cuts.specs.Sizes.{usable, quarter}
use Rattle.tree.specs.Maps.{Rising}
use Rattle.tree.specs.Trees.{Tree, BTree, cost}

-- an upper bound on keys: none, or a key that they are below
pub data Bound : Type 0 where
  none : Bound
  before : List ℕ → Bound

abbrev pub Under : List ℕ → Bound → Type 0
Under k none = Unit {0}
Under k (before s) = Below k s

-- keys from lo on, and under hi
abbrev pub Within : List ℕ → Bound → List Pair → Type 0
Within lo hi ps = AllByRecursion (λ (p : Pair). AtMost lo p.key × Under p.key hi) ps

-- the first separator of the cells, or hi where there is none
abbrev pub top : {X : Type 0} → Bound → List (Cell X) → Bound
top hi [] = hi
top hi (c ∷ cs) = before c.separator

-- Each separator is at least lo and below the next one, or under hi, and S holds of each child between the
-- separators around it; the leftmost child inherits lo, and the last one hi.
abbrev pub Rest : {X : Type 0} → (List ℕ → Bound → X → Type 0) → List ℕ → Bound → List (Cell X) → Type 0
Rest S lo hi [] = Unit {0}
Rest S lo hi (c ∷ cs) =
    AtMost lo c.separator × Under c.separator (top hi cs) × S c.separator (top hi cs) c.child × Rest S c.separator hi cs

abbrev pub Spans : {X : Type 0} → (List ℕ → Bound → X → Type 0) → List ℕ → Bound → X → List (Cell X) → Type 0
Spans S lo hi x cs = S lo (top hi cs) x × Rest S lo hi cs

-- not overfull; and not underfull either
abbrev pub Light : (n : ℕ) → (List ℕ → Bound → Tree n → Type 0) → List ℕ → Bound → Tree n → Type 0
Light n S lo hi t = (cost n t ≤ usable) × S lo hi t

abbrev pub Full : (n : ℕ) → (List ℕ → Bound → Tree n → Type 0) → List ℕ → Bound → Tree n → Type 0
Full n S lo hi t = (quarter ≤ cost n t) × Light n S lo hi t

-- a node, with nothing said of its own cost, under which all is sound
abbrev pub Sound : (n : ℕ) → List ℕ → Bound → Tree n → Type 0
Sound zero lo hi t = Rising t × Within lo hi t × AllByRecursion PairFits t
Sound (suc n) lo hi t = Spans (Full n (Sound n)) lo hi t.first t.rest × AllByRecursion CellFits t.rest

-- a branch has a separator
abbrev pub Forked : (n : ℕ) → Tree n → Type 0
Forked zero t = Unit {0}
Forked (suc n) t = 0 < length t.rest

-- a root may be underfull, but not overfull, and a branch has a separator
abbrev pub SoundTree : BTree → Type 0
SoundTree b = Light b.height (Sound b.height) [] none b.root × Forked b.height b.root
