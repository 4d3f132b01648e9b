-- What is wrong with a page of cells in its place, as with a leaf and as with a branch.
use Rattle.std.proofs.Common.{◌≡◌, ℕ, Bool, true, false, cond, leb, List, length, Option, refl, arith}
use Rattle.std.proofs.lemmas.Simd.{map-map}
use Rattle.std.proofs.lemmas.Bool.Decides.{nat_tests}
use Rattle.checksum.specs.declared.kind.Kind.TheVariants.{Leaf, Branch}
use Rattle.cuts.specs.Nodes.{Pair, Cell, pair_cost, cell_cost}
use Rattle.cuts.specs.Sizes.{quarter}
use Rattle.tree.specs.Search.{or_else}
use Rattle.tree.specs.Trees.{leaf_cost, branch_cost}
use Rattle.page.specs.Kinds.{BranchItem, leaf_rules, branch_rules, pair_of, cell_of}
use Rattle.page.specs.Layout.{cells_of}
use Rattle.page.specs.Reading.{first_fault}
use Rattle.page.specs.Views.{pairs_in, branch_in}
use Rattle.page.specs.declared.cell.Cell.{Ghosts}
use Rattle.page.specs.declared.cell.LeafCell.{LeafCell}
use Rattle.page.specs.declared.cell.BranchCell.{BranchCell}
use Rattle.page.specs.declared.fault.Cause.{Cause}
use Rattle.paged.specs.Walk.{cause_in, fault_in, leaf_filled, branch_filled, leaf_fault, branch_fault}
use Rattle.walk.specs.Spots.{low_of, high_of, cells_cause}
use Rattle.walk.specs.declared.spot.Spot.{Spot}

abbrev leaf_cells : Ghosts LeafCell
leaf_cells = record { KIND = Leaf; rules = leaf_rules; Item = Pair; item = pair_of; item_cost = pair_cost }

abbrev branch_cells : Ghosts BranchCell
branch_cells = record { KIND = Branch; rules = branch_rules; Item = BranchItem; item = cell_of; item_cost = cell_cost }

abbrev pub leaf_fault_at : Spot → List ℕ → Option Cause
leaf_fault_at s = fault_in leaf_rules (cells_cause leaf_cells 0 s)

abbrev pub branch_fault_at : Spot → List ℕ → Option Cause
branch_fault_at s = fault_in branch_rules (cells_cause branch_cells 1 s)

leaf_fill : (root : Bool) (b : List ℕ) → leaf_filled root (pairs_in b) ≡ cond root (leb 0 (length (pairs_in b))) (leb quarter (leaf_cost (pairs_in b)))
leaf_fill true b = grind (arith, nat_tests)
leaf_fill false b = refl

branch_fill : (root : Bool) (b : List ℕ) → branch_filled root (branch_in b) ≡ cond root (leb 1 (length (branch_in b).rest)) (leb quarter (branch_cost (branch_in b)))
branch_fill true b = grind (arith, nat_tests)
branch_fill false b = refl

module _ (s : Spot) (b : List ℕ) where
  pub leaf_same : leaf_fault s.is_root (low_of s) (high_of s) b ≡ leaf_fault_at s b
  unfolding leaf_fault
  leaf_same = (λ j. or_else (first_fault leaf_rules b) (cause_in (low_of s) (high_of s) (map-map (λ (p : Pair). p.key) pair_of (cells_of b) j) (leaf_fill s.is_root b j)))

  pub branch_same : branch_fault s.is_root (low_of s) (high_of s) b ≡ branch_fault_at s b
  unfolding branch_fault
  branch_same = (λ j. or_else (first_fault branch_rules b) (cause_in (low_of s) (high_of s) (map-map (λ (c : Cell ℕ). c.separator) cell_of (cells_of b) j) (branch_fill s.is_root b j)))
