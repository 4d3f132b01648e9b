-- What the walk accepts.
use Rattle.std.specs.Prelude.{◌≡◌, ℕ, suc, ◌<◌, ◌≤◌, List, length, Ok}
use Rattle.tree.specs.Counts.{WideBelow}
use Rattle.paged.specs.Paged.{PagedTree, root_page, pages_of, bare, Lies, tree_at}
use Rattle.paged.specs.Walk.{walked}
use Rattle.paged.specs.Sound.{SoundOn}

-- the walk accepts exactly the sound trees that lie on the pages
abbrev pub WalksAcceptSoundTrees : Type 0
WalksAcceptSoundTrees = (m : ℕ → List ℕ) (size n root count : ℕ) → 2 ≤ root → root < size → (t : PagedTree n)
    → (walked m size n root count ≡ Ok t → SoundOn m size n root count t)
    × (SoundOn m size n root count t → walked m size n root count ≡ Ok t)

-- and on any pages at most one tree lies from a page on: the one that they say
abbrev pub OneTreeLies : Type 0
OneTreeLies = (m : ℕ → List ℕ) (n : ℕ) (t : PagedTree n) → Lies m n t → t ≡ tree_at m n (root_page n t)

-- every branch but the root has three children or more, and the tree has fewer pages than the device
pub record Low (size n : ℕ) (t : PagedTree n) : Type 0 where
  pub wide : WideBelow n (bare n t)
  pub few : suc (suc (length (pages_of n t))) ≤ size
  pub low : size ≤ 1024 → suc n ≤ 7

-- so it has at most seven levels on at most 1,024 pages
abbrev pub SoundTreesOnPagesAreLow : Type 0
SoundTreesOnPagesAreLow = (m : ℕ → List ℕ) (size n root count : ℕ) (t : PagedTree n) → SoundOn m size n root count t → Low size n t
