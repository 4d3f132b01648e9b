-- Marks on the pages of a device.
use Rattle.std.specs.Prelude.{◌≡◌, ℕ, ◌<◌, Bool, false, not, ◌&&◌, List, count_by, nat_le, nat_lt, slice_index_or}
use Rattle.paged.specs.Walk.{elem}

-- the marks are on these pages
abbrev pub MarksAre : List Bool → List ℕ → Type 0
MarksAre marks met = (p : ℕ) → p < 1024 → slice_index_or marks p false ≡ elem p met

-- how many pages are marked
abbrev pub marked : List Bool → ℕ
marked marks = count_by (λ b. b) marks

-- whether a page may be a child, by the marks
abbrev pub free : ℕ → List Bool → ℕ → Bool
free size marks p = (nat_le 2 p && nat_lt p size) && not (slice_index_or marks p false)
