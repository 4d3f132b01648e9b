-- A page on the way down, with the bounds that it inherits.
use Rattle.std.specs.Prelude.{ℕ, zero, suc, Bool, cond, List, [], ◌∷◌, map, length, Some, None, Option, nat_le}
use Rattle.std.specs.Option.{option_map}
use Rattle.cuts.specs.Cuts.{total}
use Rattle.cuts.specs.Nodes.{Cell}
use Rattle.cuts.specs.Sizes.{quarter}
use Rattle.page.specs.Layout.{cells_of}
use Rattle.page.specs.declared.cell.Cell.{Ghosts}
use Rattle.page.specs.declared.fault.Cause.{Cause}
use Rattle.tree.specs.Places.{separator_at}
use Rattle.tree.specs.Sound.{Bound, none, before}
use Rattle.paged.specs.Walk.{cause_in, Slot, slot}
use Rattle.walk.specs.declared.spot.Spot.{Spot}

abbrev pub bound_of : Option (List ℕ) → Bound
bound_of None = none
bound_of (Some s) = before s

abbrev pub low_of : Spot → List ℕ
low_of s = s.low.now

abbrev pub high_of : Spot → Bound
high_of s = bound_of (option_map (λ x. x.now) s.high)

abbrev pub slot_of : Spot → Slot ℕ
slot_of s = slot (low_of s) (high_of s) s.page

-- the separator before child i
abbrev pub low_at : {X : Type 0} → List ℕ → List (Cell X) → ℕ → List ℕ
low_at lo cs zero = lo
low_at lo cs (suc i) = separator_at i cs

-- the separator after child i
abbrev pub high_at : {X : Type 0} → Bound → List (Cell X) → ℕ → Bound
high_at hi [] i = hi
high_at hi (c ∷ cs) zero = before c.separator
high_at hi (c ∷ cs) (suc i) = high_at hi cs i

-- whether a page has enough cells for its place: as the root `fewest`, and elsewhere a quarter of what a page holds
abbrev pub cells_filled : {T : Type 0} → Ghosts T → (fewest : ℕ) (root : Bool) → List ℕ → Bool
cells_filled C fewest root b = cond root (nat_le fewest (length (map C.item (cells_of b)))) (nat_le quarter (total C.item_cost (map C.item (cells_of b))))

-- what is wrong first with the cells of a page in its place
abbrev pub cells_cause : {T : Type 0} → Ghosts T → (fewest : ℕ) → Spot → List ℕ → Option Cause
cells_cause C fewest s b = cause_in (low_of s) (high_of s) (map C.rules.key (cells_of b)) (cells_filled C fewest s.is_root b)
