-- Sound trees on the pages of a device.
use Rattle.std.specs.Prelude.{◌≡◌, ℕ, ◌<◌, ◌≤◌, List, [], ◌∷◌, length, ◌≢◌}
use Rattle.std.specs.List.{AllByRecursion}
use Rattle.tree.specs.Sound.{SoundTree}
use Rattle.paged.specs.Paged.{PagedTree, root_page, pages_of, as_tree, pairs_on, Lies}

abbrev pub Distinct : List ℕ → Type 0
Distinct [] = Unit {0}
Distinct (p ∷ ps) = AllByRecursion (λ (q : ℕ). p ≢ q) ps × Distinct ps

-- the pages that a tree may have, on a device with so many: the first two are meta pages
abbrev pub Inside : ℕ → ℕ → Type 0
Inside size p = (2 ≤ p) × (p < size)

-- t is a sound tree from page `root` on, on the pages whose bytes m gives, with so many pairs
pub record SoundOn (m : ℕ → List ℕ) (size n root count : ℕ) (t : PagedTree n) : Type 0 where
  pub starts : root_page n t ≡ root
  pub lies : Lies m n t
  pub sound : SoundTree (as_tree n t)
  pub apart : Distinct (pages_of n t)
  pub inside : AllByRecursion (Inside size) (pages_of n t)
  pub counts : length (pairs_on n t) ≡ count
