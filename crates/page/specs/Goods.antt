-- What a good cell has: lengths that fit, and so a cost that does.
use Rattle.std.proofs.Common.{◌≡◌, ℕ, ◌+◌, ◌≤◌, true, List, length, get_or, drop, arith}
use Rattle.std.proofs.lemmas.List.{length-take-le, length-drop}
use Rattle.std.proofs.lemmas.Bool.{and_parts, leb-true, eqb-true}
use Rattle.cuts.specs.Nodes.{pair_cost, cell_cost}
use Rattle.page.specs.Kinds.{leaf_good, branch_good, pair_of, cell_of}

pub record CellParts (b : List ℕ) : Type 0 where
  pub some : 1 ≤ get_or b 0 0
  pub key : get_or b 0 0 ≤ 64
  pub value : get_or b 1 0 ≤ 128
  pub long : length b ≡ 2 + get_or b 0 0 + get_or b 1 0

pub leaf_parts_of : (b : List ℕ) → leaf_good b ≡ true → CellParts b
leaf_parts_of b h =
    let p = and_parts _ _ h in
    let q = and_parts _ _ p.1 in
    let r = and_parts _ _ q.0 in
    let s = and_parts _ _ q.1 in
    record { some = leb-true _ _ r.0; key = leb-true _ _ r.1; value = leb-true _ _ s.0; long = eqb-true _ _ s.1 }

pub leaf_costs : (b : List ℕ) → leaf_good b ≡ true → pair_cost (pair_of b) ≡ 2 + length b
leaf_costs b h =
    let p = leaf_parts_of b h in
    omega (arith, length-take-le (get_or b 0 0) (drop 2 b) (omega (arith, length-drop 2 b, p.long)), length-drop (2 + get_or b 0 0) b, p.long, length-drop 2 b)

pub leaf_small : (b : List ℕ) → leaf_good b ≡ true → 2 + length b ≤ 196
leaf_small b h = let p = leaf_parts_of b h in omega (arith, p.long, p.key, p.value)

pub record BranchParts (b : List ℕ) : Type 0 where
  pub some : 1 ≤ get_or b 0 0
  pub short : get_or b 0 0 ≤ 64
  pub long : length b ≡ 6 + get_or b 0 0

pub branch_parts_of : (b : List ℕ) → branch_good b ≡ true → BranchParts b
branch_parts_of b h =
    let p = and_parts _ _ h in
    let q = and_parts _ _ p.1 in
    let r = and_parts _ _ q.0 in
    let s = and_parts _ _ q.1 in
    record { some = leb-true _ _ r.0; short = leb-true _ _ r.1; long = eqb-true _ _ s.1 }

pub branch_costs : (b : List ℕ) → branch_good b ≡ true → cell_cost (cell_of b) ≡ 2 + length b
branch_costs b h = let p = branch_parts_of b h in omega (arith, length-drop 6 b, p.long)

pub branch_small : (b : List ℕ) → branch_good b ≡ true → 2 + length b ≤ 196
branch_small b h = let p = branch_parts_of b h in omega (arith, p.long, p.short)
