-- What holds of the parents and the places of a tree's pages.
use Rattle.std.specs.Prelude.{◌≡◌, ℕ, zero, suc, ◌-◌, ◌<◌, Bool, true, false, ◌&&◌, ◌||◌, List, map, Ok, ◌==◌, ◌↔◌}
use Rattle.std.specs.List.{list_any}
use Rattle.paged.specs.Paged.{PagedTree, root_page, children, pages_of}
use Rattle.paged.specs.Sound.{SoundOn}
use Rattle.paged.specs.Walk.{elem}
use Rattle.walk.specs.Marking.{MarksAre}
use Rattle.survey.specs.Families.{names, FindsTree, place_in}
use Rattle.survey.specs.declared.family.Place.{Place}
use Rattle.survey.specs.declared.family.Place.TheVariants.{Root, ChildOf, NoTree}
use Rattle.survey.specs.declared.family.Tree.{Tree}

-- whether page q is the parent of page p in a tree
abbrev pub is_parent : (n : ℕ) → PagedTree n → (q p : ℕ) → Bool
is_parent zero t q p = false
is_parent (suc n) t q p =
    (q == t.page && elem p (map (root_page n) (children t.node))) || list_any (λ c. is_parent n c q p) (children t.node)

-- Where a sound tree lies, and its pages are marked, the pages that name a page as their child are its parents in the tree.
abbrev pub ParentsAreTheTrees : Type 0
ParentsAreTheTrees = (m : ℕ → List ℕ) (size n root count : ℕ) (t : PagedTree n) (marks : List Bool)
    → SoundOn m size n root count t → MarksAre marks (pages_of n t)
    → (q p : ℕ) → q < 1024 → names m marks q p ≡ is_parent n t q p

-- page p stands at this place of a tree
abbrev pub Stands : (n : ℕ) → PagedTree n → ℕ → Place → Type 0
Stands n t p Root = p ≡ root_page n t
Stands n t p (ChildOf q) = is_parent n t q p ≡ true
Stands n t p NoTree = elem p (pages_of n t) ≡ false

-- What is found of a card is a sound tree, and place_in answers a place exactly if the page stands there in it. So each page
-- of the tree has one parent, but for the root, which has none.
abbrev pub PlacesAreTheTrees : Type 0
PlacesAreTheTrees = (m : ℕ → List ℕ) (size : ℕ) (on : Bool) (t : Tree) → (found : FindsTree m size on (Ok t))
    → let n = t.meta.levels - 1 in
    let tree = found.0 in
    SoundOn m size n t.meta.root t.meta.pairs tree
    × ((p : ℕ) (place : Place) → (place_in t p ≡ place) ↔ Stands n tree p place)
