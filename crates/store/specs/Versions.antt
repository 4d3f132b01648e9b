-- Versions of the tree on the device, and sound stores.
use Rattle.std.specs.Prelude.{◌≡◌, ℕ, ◌+◌, ◌-◌, ◌%◌, Bool, true, false, List, [], Some}
use Rattle.std.specs.List.{AllByRecursion}
use Rattle.device.specs.Medium.{Medium}
use Rattle.cuts.specs.Nodes.{Pair}
use Rattle.meta.specs.Laws.{Fits}
use Rattle.meta.specs.Layout.{meta_page}
use Rattle.meta.specs.Shape.{Good}
use Rattle.meta.specs.declared.Meta.{Meta}
use Rattle.paged.specs.Paged.{PagedTree, pages_of, pairs_on, tree_at}
use Rattle.paged.specs.Sound.{SoundOn}
use Rattle.walk.specs.Marking.{MarksAre}
use Rattle.walk.specs.Checking.{fits_pages, newest_in}
use Rattle.store.specs.Model.{Model, shut, idle, active}
use Rattle.store.specs.declared.state.State.{State}
use Rattle.store.specs.declared.state.State.TheVariants.{Shut, Idle, InTransaction}
use Rattle.store.specs.declared.state.Held.{Held}

-- the height of the tree that a meta names; where m gives the bytes of each page, that tree, its pages, and its pairs
abbrev pub height_of : Meta → ℕ
height_of x = x.levels - 1

abbrev pub tree_of : (m : ℕ → List ℕ) (x : Meta) → PagedTree (height_of x)
tree_of m x = tree_at m (height_of x) x.root

abbrev pub pages_held : (m : ℕ → List ℕ) (x : Meta) → List ℕ
pages_held m x = pages_of (height_of x) (tree_of m x)

abbrev pub pairs_held : (m : ℕ → List ℕ) (x : Meta) → List Pair
pairs_held m x = pairs_on (height_of x) (tree_of m x)

-- The version stands on the medium: its numbers are good and fit a meta page, its tree is sound and lies there, and the
-- marks are on the pages of that.
pub record Stands (m : Medium) (x : Meta) (marks : List Bool) : Type 0 where
  pub good : Good (x.commit % 2) m.size x
  pub fits : Fits x
  pub tree : SoundOn m.bytes m.size (height_of x) x.root x.pairs (tree_of m.bytes x)
  pub marked : MarksAre marks (pages_held m.bytes x)

-- It is committed: its meta page is the newest, and that page and those of the tree are durable.
pub record Committed (m : Medium) (x : Meta) (marks : List Bool) : Type 0 where
  pub room : fits_pages m.size ≡ true
  pub stands : Stands m x marks
  pub page : m.bytes (x.commit % 2) ≡ meta_page x
  pub newest : newest_in m.bytes m.size ≡ Some x
  pub page_durable : m.volatile (x.commit % 2) ≡ false
  pub tree_durable : AllByRecursion (λ (p : ℕ). m.volatile p ≡ false) (pages_held m.bytes x)

-- a store whose state says what is on its device; in a transaction the working version has the next number
abbrev pub Sound : Medium → State → Held → Type 0
Sound m Shut held = Unit {0}
Sound m (Idle x) held = Committed m x held.committed.marked
Sound m (InTransaction x) held =
    Committed m x.committed held.committed.marked × Stands m x.working held.working.marked × (x.working.commit ≡ x.committed.commit + 1)

-- a store that has kept nothing: no page is marked
pub record Forgotten (held : Held) : Type 0 where
  pub committed : MarksAre held.committed.marked []
  pub working : MarksAre held.working.marked []

-- the model that a store is
abbrev pub model_of : (m : ℕ → List ℕ) → State → Model
model_of m Shut = shut
model_of m (Idle x) = idle x.commit (pairs_held m x)
model_of m (InTransaction x) = active x.committed.commit (pairs_held m x.committed) (pairs_held m x.working)
