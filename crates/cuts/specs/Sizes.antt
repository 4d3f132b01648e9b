-- How much fits on a page. A page other than the root is underfull below a quarter of it.
use Rattle.std.specs.Prelude.{ℕ, ◌/◌, ◌≤◌}

-- the bytes of a page for cells and their offsets
abbrev pub usable : ℕ
usable = 496

abbrev pub quarter_of : ℕ → ℕ
quarter_of u = u / 4

abbrev pub quarter : ℕ
quarter = quarter_of usable

-- what the largest cells cost
abbrev pub largest_pair : ℕ
largest_pair = 196

abbrev pub largest_cell : ℕ
largest_cell = 72

-- a list of that cost, on a page with u usable bytes, is neither overfull nor underfull
abbrev pub WellFilled : ℕ → ℕ → Type 0
WellFilled u cost = (quarter_of u ≤ cost) × (cost ≤ u)
