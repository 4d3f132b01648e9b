-- What holds of trees and their edits.
use Rattle.std.specs.Prelude.{◌≡◌, ℕ, suc, ◌≤◌, Bool, List, length, Some, None, Option, ◌≢◌}
use Rattle.std.specs.List.{AllByRecursion}
use Rattle.cuts.specs.Keys.{Below, AtMost, KeyFits}
use Rattle.cuts.specs.Nodes.{Pair, Branch}
use Rattle.tree.specs.Maps.{insert, delete, lookup, first_above, Rising}
use Rattle.tree.specs.Trees.{Tree, BTree, empty, pairs_of, branch_cost}
use Rattle.tree.specs.Edits.{Grown, cut_branch, fit, merge_branches, placed, mended, edit, put, remove}
use Rattle.tree.specs.Sound.{Bound, Under, Light, Sound, Forked, SoundTree}
use Rattle.tree.specs.Search.{picked, child_at, get, next}
use Rattle.tree.specs.Places.{splice, splice_two, edit_by_place, map_branch, map_grown}

-- a list of pairs whose keys rise is a map, which insertion and deletion change at one key
abbrev pub RisingPairsAreAMap : Type 0
RisingPairsAreAMap = (ps : List Pair) → Rising ps → (k v : List ℕ)
    → Rising (insert k v ps)
    × Rising (delete k ps)
    × (lookup k (insert k v ps) ≡ Some v)
    × (lookup k (delete k ps) ≡ None)
    × ((k' : List ℕ) → (k' ≢ k)
    → (lookup k' (insert k v ps) ≡ lookup k' ps) × (lookup k' (delete k ps) ≡ lookup k' ps))

-- a sound tree is such a map, and its edits are the map's
abbrev pub TreesAreMaps : Type 0
TreesAreMaps = (b : BTree) → SoundTree b → Rising (pairs_of b)

abbrev pub PutsInsertAndRemovesDelete : Type 0
PutsInsertAndRemovesDelete = (b : BTree) → SoundTree b → (k v : List ℕ)
    → (pairs_of (put b k v) ≡ insert k v (pairs_of b)) × (pairs_of (remove b k) ≡ delete k (pairs_of b))

-- the tree with which a store begins is sound, and a sound tree stays so
abbrev pub TheEmptyTreeIsSound : Type 0
TheEmptyTreeIsSound = SoundTree empty

abbrev pub EditsKeepTreesSound : Type 0
EditsKeepTreesSound = (b : BTree) → SoundTree b
    → ((k v : List ℕ) → KeyFits k → length v ≤ 128 → SoundTree (put b k v)) × ((k : List ℕ) → SoundTree (remove b k))

-- the search down a sound tree finds what the map has
abbrev pub SearchFindsThePair : Type 0
SearchFindsThePair = (b : BTree) → SoundTree b → (k : List ℕ) → get b k ≡ lookup k (pairs_of b)

-- so an edit changes what is found at one key, and at no other
abbrev pub EditsChangeOneKey : Type 0
EditsChangeOneKey = (b : BTree) → SoundTree b → (k v : List ℕ) → KeyFits k → length v ≤ 128
    → (get (put b k v) k ≡ Some v)
    × (get (remove b k) k ≡ None)
    × ((k' : List ℕ) → (k' ≢ k) → (get (put b k v) k' ≡ get b k') × (get (remove b k) k' ≡ get b k'))

-- what is next after k in a map: a pair of it above k with no key of it in between, or none if no key is above k
abbrev pub Next : List ℕ → List Pair → Option Pair → Type 0
Next k ps None = AllByRecursion (λ (q : Pair). AtMost q.key k) ps
Next k ps (Some p) =
    (lookup p.key ps ≡ Some p.value) × Below k p.key × AllByRecursion (λ (q : Pair). Below k q.key → AtMost p.key q.key) ps

abbrev pub FirstAboveIsTheNext : Type 0
FirstAboveIsTheNext = (ps : List Pair) → Rising ps → (k : List ℕ) → Next k ps (first_above k ps)

-- the search for it, where k may be any bytes, also none
abbrev pub AfterFindsTheNextPair : Type 0
AfterFindsTheNextPair = (b : BTree) → SoundTree b → (k : List ℕ) → next b k ≡ first_above k (pairs_of b)

-- The edit of a branch goes by the number of the child, at the root and below it alike.
abbrev pub EditsGoByPlace : Type 0
EditsGoByPlace = (n : ℕ) (lo : List ℕ) (hi : Bound) (t : Tree (suc n)) → Light (suc n) (Sound (suc n)) lo hi t → Forked (suc n) t
    → (k : List ℕ) → AtMost lo k → Under k hi
    → ((v : List ℕ) → KeyFits k → length v ≤ 128 → edit (insert k v) k (suc n) t ≡ edit_by_place (insert k v) k n t)
    × (edit (delete k) k (suc n) t ≡ edit_by_place (delete k) k n t)

-- the steps at a branch commute with a function f of the children
pub record StepsCommute {X Y : Type 0} (f : X → Y) : Type 0 where
  pub fitting : (b : Branch X)
      → map_grown (map_branch f) (fit branch_cost cut_branch b) ≡ fit branch_cost cut_branch (map_branch f b)
  pub merging : (l : Branch X) (s : List ℕ) (r : Branch X)
      → map_branch f (merge_branches l s r) ≡ merge_branches (map_branch f l) s (map_branch f r)
  pub placing : (e : X → Grown X) (e' : Y → Grown Y) (k : List ℕ) → ((x : X) → map_grown f (e x) ≡ e' (f x))
      → (b : Branch X) → map_branch f (placed e k b) ≡ placed e' k (map_branch f b)
  pub mending : (under : X → Bool) (under' : Y → Bool) (joins : X → List ℕ → X → Grown X) (joins' : Y → List ℕ → Y → Grown Y)
      → ((x : X) → under x ≡ under' (f x))
      → ((l : X) (s : List ℕ) (r : X) → map_grown f (joins l s r) ≡ joins' (f l) s (f r))
      → (b : Branch X) → map_branch f (mended under joins b) ≡ mended under' joins' (map_branch f b)
  pub picking : (k : List ℕ) (b : Branch X) → picked k (map_branch f b).rest ≡ picked k b.rest
  pub descending : (i : ℕ) (b : Branch X)
      → f (child_at i b.first b.rest) ≡ child_at i (map_branch f b).first (map_branch f b).rest
  pub splicing : (i : ℕ) (g : Grown X) (b : Branch X)
      → map_branch f (splice i g b.first b.rest) ≡ splice i (map_grown f g) (map_branch f b).first (map_branch f b).rest
  pub splicing_two : (i : ℕ) (g : Grown X) (b : Branch X)
      → map_branch f (splice_two i g b.first b.rest) ≡ splice_two i (map_grown f g) (map_branch f b).first (map_branch f b).rest

-- so a branch of page numbers is edited as the branch of trees that are read off those pages
abbrev pub StepsCommuteWithReading : Type 0
StepsCommuteWithReading = (n : ℕ) (read : ℕ → Tree n) → StepsCommute read
