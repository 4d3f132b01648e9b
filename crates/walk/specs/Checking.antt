-- The check of a whole device: the newer meta page that passes its test, and the walk over its tree.
use Rattle.std.specs.Prelude.{◌≡◌, ℕ, ◌-◌, ◌<◌, ◌≤◌, Bool, true, false, cond, ◌&&◌, List, [], ◌∷◌, reverse, Some, None, Ok, Err, Option, Result, nat_le}
use Rattle.device.specs.Medium.{Medium}
use Rattle.device.specs.History.{History}
use Rattle.device.specs.Looking.{pages_read}
use Rattle.device.specs.declared.fault.DeviceFault.{DeviceFault}
use Rattle.device.specs.declared.fault.DeviceFault.TheVariants.{Off}
use Rattle.page.specs.declared.fault.Damage.{Damage}
use Rattle.page.specs.declared.fault.PageFault.{PageFault}
use Rattle.page.specs.declared.fault.PageFault.TheVariants.{Device, Damaged}
use Rattle.meta.specs.Test.{read_meta, newer}
use Rattle.meta.specs.declared.Meta.{Meta}
use Rattle.faults.specs.declared.fault.StoreFault.{StoreFault}
use Rattle.faults.specs.declared.fault.StoreFault.TheVariants.{Page, NoMeta, PageCount}
use Rattle.paged.specs.Paged.{PagedTree, pages_of}
use Rattle.paged.specs.Walk.{walked}
use Rattle.walk.specs.Marking.{MarksAre}
use Rattle.walk.specs.declared.inspection.Recovered.{Recovered}
use Rattle.walk.specs.declared.inspection.Summary.{Summary}
use Rattle.walk.specs.declared.marks.Marks.{Marks}

-- a device may have 16 to 1,024 pages
abbrev pub fits_pages : ℕ → Bool
fits_pages size = nat_le 16 size && nat_le size 1024

abbrev pub room_of : ℕ → Result Unit StoreFault
room_of size = cond (fits_pages size) (Ok tt) (Err PageCount)

-- In these, m gives the bytes of each page, of which there are `size`.

-- of the meta pages that pass their test, the one with the larger commit number
abbrev pub newest_in : (m : ℕ → List ℕ) (size : ℕ) → Option Meta
newest_in m size = newer (read_meta 0 size (m 0)) (read_meta 1 size (m 1))

-- what a device holds: a meta, and its tree, which has a level of leaves and above it levels of branches
pub record Holding : Type 0 where
  pub meta : Meta
  pub tree : PagedTree (meta.levels - 1)

abbrev pub holding : (x : Meta) → Result (PagedTree (x.levels - 1)) Damage → Result Holding StoreFault
holding x (Ok t) = Ok (record { meta = x; tree = t })
holding x (Err d) = Err (Page (Damaged d))

abbrev pub held_by : (m : ℕ → List ℕ) (size : ℕ) → Option Meta → Result Holding StoreFault
held_by m size None = Err NoMeta
held_by m size (Some x) = holding x (walked m size (x.levels - 1) x.root x.pairs)

-- what is found, if the device is on at the end; a wrong number of pages is found without a call of the device
abbrev pub powered : {T : Type 0} → Bool → Result T StoreFault → Result T StoreFault
powered true r = r
powered false r = Err (Page (Device Off))

abbrev pub found_on : (m : ℕ → List ℕ) (size : ℕ) (on : Bool) → Result Holding StoreFault
found_on m size on = cond (fits_pages size) (powered on (held_by m size (newest_in m size))) (Err PageCount)

-- What a recovery answers, after the reads t: what is found, with marks on the pages of the tree. It has read both meta
-- pages, and then each page of the tree once, before its children.
abbrev pub Recovers : Medium → Bool → History → Result Recovered StoreFault → Type 0
Recovers m on t (Err f) = found_on m.bytes m.size on ≡ Err f
Recovers m on t (Ok r) =
    (tree : PagedTree (r.meta.levels - 1))
    × (found_on m.bytes m.size on ≡ Ok (record { meta = r.meta; tree = tree }))
    × MarksAre r.marks.marked (pages_of (r.meta.levels - 1) tree)
    × (pages_read t ≡ reverse (0 ∷ 1 ∷ pages_of (r.meta.levels - 1) tree))

-- what a check answers
abbrev pub summary_of : Meta → Summary
summary_of x = record { commit = x.commit; pairs = x.pairs; levels = x.levels }

abbrev pub summed : Result Holding StoreFault → Result Summary StoreFault
summed (Ok h) = Ok (summary_of h.meta)
summed (Err f) = Err f

-- Of the parts: the newest meta, and the walk of its tree.
abbrev pub Newest : Medium → ℕ → Bool → History → Result (Option Meta) DeviceFault → Type 0
Newest m size on t (Err f) = (on ≡ false) × (f ≡ Off)
Newest m size on t (Ok o) = (on ≡ true) × (o ≡ newest_in m.bytes size) × (pages_read t ≡ 1 ∷ 0 ∷ [])

-- a meta whose root is a page of the tree's, and which has a level
pub record Rooted (size : ℕ) (x : Meta) : Type 0 where
  pub low : 2 ≤ x.root
  pub high : x.root < size
  pub some : 1 ≤ x.levels

abbrev pub verdict : {T : Type 0} → Bool → Result T Damage → Result T PageFault
verdict false v = Err (Device Off)
verdict true (Ok t) = Ok t
verdict true (Err d) = Err (Damaged d)

abbrev pub WalksTree : Medium → ℕ → Meta → Bool → History → Result Marks PageFault → Type 0
WalksTree m size x on t (Err f) = verdict on (walked m.bytes size (x.levels - 1) x.root x.pairs) ≡ Err f
WalksTree m size x on t (Ok marks) =
    (tree : PagedTree (x.levels - 1))
    × (verdict on (walked m.bytes size (x.levels - 1) x.root x.pairs) ≡ Ok tree)
    × MarksAre marks.marked (pages_of (x.levels - 1) tree)
    × (pages_read t ≡ reverse (pages_of (x.levels - 1) tree))
