-- Reading a page: what is wrong with it first.
use Rattle.std.specs.Prelude.{ℕ, Bool, true, cond, not, ◌&&◌, List, [], ◌∷◌, is_some, Some, None, Option, ◌==◌, nat_le, slice_index}
use Rattle.std.specs.Str.{bytes_eq}
use Rattle.checksum.specs.Sealed.{is_sealed}
use Rattle.cuts.specs.Keys.{key<}
use Rattle.page.specs.Kinds.{Rules}
use Rattle.page.specs.Layout.{cost, laid_out, cells_of, left_of, sum_of}
use Rattle.page.specs.declared.fault.Cause.{Cause}
use Rattle.page.specs.declared.fault.Cause.TheVariants.{Checksum, Kind, Layout, Order}

abbrev pub every : (List ℕ → Bool) → List (List ℕ) → Bool
every good [] = true
every good (c ∷ cs) = good c && every good cs

-- the bytes are laid out as the page of the cells that they say, and these are good cells
unfoldable pub layout : Rules → List ℕ → Bool
layout k b =
    every k.good (cells_of b) && (k.leftmost (left_of b) && (nat_le (cost (cells_of b)) 496 && bytes_eq b (laid_out k.kind (left_of b) (sum_of b) (cells_of b))))

-- each cell's key is below the next one's
unfoldable pub rising : (List ℕ → List ℕ) → List (List ℕ) → Bool
rising key [] = true
rising key (c ∷ []) = true
rising key (c ∷ d ∷ cs) = key< (key c) (key d) && rising key (d ∷ cs)

-- the first of the faults that need no checksum
unfoldable pub shape_fault : Rules → List ℕ → Option Cause
shape_fault k b =
    cond (not (slice_index b 0 == k.kind)) (Some Kind)
    (cond (not (layout k b)) (Some Layout)
    (cond (not (rising k.key (cells_of b))) (Some Order) None))

-- the first fault of a page
unfoldable pub first_fault : Rules → List ℕ → Option Cause
first_fault k b = cond (not (is_sealed b)) (Some Checksum) (shape_fault k b)

-- the page has none
unfoldable pub sound : Rules → List ℕ → Bool
sound k b = not (is_some (first_fault k b))
