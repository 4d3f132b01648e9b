-- The pages of a tree by their parents.
use Rattle.std.specs.Prelude.{◌≡◌, ℕ, ◌-◌, ◌<◌, Bool, true, false, cond, ◌&&◌, List, Some, None, Ok, Err, Option, Result, nat_le, slice_index_or, ◌==◌}
use Rattle.device.specs.declared.fault.DeviceFault.{DeviceFault}
use Rattle.device.specs.declared.fault.DeviceFault.TheVariants.{Off}
use Rattle.page.specs.Kinds.{branch_rules}
use Rattle.page.specs.Reading.{sound}
use Rattle.page.specs.Views.{branch_in}
use Rattle.meta.specs.declared.Meta.{Meta}
use Rattle.faults.specs.declared.fault.StoreFault.{StoreFault}
use Rattle.paged.specs.Paged.{PagedTree, children, pages_of}
use Rattle.paged.specs.Walk.{elem}
use Rattle.walk.specs.Marking.{MarksAre}
use Rattle.walk.specs.Checking.{newest_in, found_on}
use Rattle.survey.specs.declared.parents.Parents.{Parents}
use Rattle.survey.specs.declared.family.Place.{Place}
use Rattle.survey.specs.declared.family.Place.TheVariants.{Root, ChildOf, NoTree}
use Rattle.survey.specs.declared.family.Tree.{Tree}

-- In these, m gives the bytes of each page, of which there are `size`.

-- page q is marked, reads as a branch, and has p for a child
unfoldable pub names : (m : ℕ → List ℕ) (marks : List Bool) (q p : ℕ) → Bool
names m marks q p = slice_index_or marks q false && (sound branch_rules (m q) && elem p (children (branch_in (m q))))

-- what may be said of the parent of p: a page that names it, or that none of the pages does
abbrev pub ParentIs : (m : ℕ → List ℕ) (size : ℕ) (marks : List Bool) (p : ℕ) → Option ℕ → Type 0
ParentIs m size marks p (Some q) = (q < size) × (names m marks q p ≡ true)
ParentIs m size marks p None = (q : ℕ) → q < size → names m marks q p ≡ false

abbrev pub parent_in : Parents → ℕ → Option ℕ
parent_in ps p = slice_index_or ps.parents p None

abbrev pub ParentsAre : (m : ℕ → List ℕ) (size : ℕ) (marks : List Bool) → Parents → Type 0
ParentsAre m size marks ps = (p : ℕ) → p < 1024 → ParentIs m size marks p (parent_in ps p)

-- what the search for parents answers
abbrev pub TellsParents : (m : ℕ → List ℕ) (size : ℕ) (marks : List Bool) (on : Bool) → Result Parents DeviceFault → Type 0
TellsParents m size marks on (Ok ps) = ParentsAre m size marks ps
TellsParents m size marks on (Err f) = (on ≡ false) × (f ≡ Off)

-- the parents after those of some pages are set
abbrev pub Adopts : (pages : List ℕ) (parent : ℕ) (before after : List (Option ℕ)) → Type 0
Adopts pages parent before after = (p : ℕ) → p < 1024 → slice_index_or after p None ≡ cond (elem p pages) (Some parent) (slice_index_or before p None)

-- what is found of the tree of a card: that of the newest meta page, which the walk accepts
abbrev pub FindsTree : (m : ℕ → List ℕ) (size : ℕ) (on : Bool) → Result Tree StoreFault → Type 0
FindsTree m size on (Err f) = found_on m size on ≡ Err f
FindsTree m size on (Ok t) =
    (tree : PagedTree (t.meta.levels - 1))
    × (found_on m size true ≡ Ok (record { meta = t.meta; tree = tree }))
    × MarksAre t.marks.marked (pages_of (t.meta.levels - 1) tree)
    × ParentsAre m size t.marks.marked t.parents

-- the meta page that counts, on a card that has both
abbrev pub TellsNewest : (m : ℕ → List ℕ) (size : ℕ) (on : Bool) → Result (Option Meta) DeviceFault → Type 0
TellsNewest m size on (Ok o) = o ≡ cond (nat_le 2 size) (newest_in m size) None
TellsNewest m size on (Err f) = (on ≡ false) × (f ≡ Off)

-- where a page stands in a tree
abbrev pub below : Option ℕ → Place
below (Some q) = ChildOf q
below None = NoTree

abbrev pub place_in : Tree → ℕ → Place
place_in t p = cond (slice_index_or t.marks.marked p false) (cond (p == t.meta.root) Root (below (parent_in t.parents p))) NoTree
