-- The key of a cell by its number, as the key of a pair and as a separator.
use Rattle.std.proofs.Common.{◌≡◌, ℕ, zero, suc, List, [], ◌∷◌, map, arith}
use Rattle.std.specs.List.{slice_get}
use Rattle.std.proofs.lemmas.Bool.Decides.{nat_tests}
use Rattle.tree.specs.Trees.{branch}
use Rattle.page.specs.Branches.{separator_of}
use Rattle.page.specs.Kinds.{leaf_key, branch_key, pair_of, cell_of}
use Rattle.page.specs.Views.{key_of_place}

pub pair_key : (xs : List (List ℕ)) (i : ℕ) → slice_get (map leaf_key xs) i ≡ key_of_place i (map pair_of xs)
pair_key [] i = grind (arith, nat_tests)
pair_key (x ∷ xs) zero = grind (arith, nat_tests)
pair_key (x ∷ xs) (suc i) = let ih = pair_key xs i in grind (arith, nat_tests)

pub cell_separator : (l : ℕ) (xs : List (List ℕ)) (i : ℕ) → slice_get (map branch_key xs) i ≡ separator_of i (branch l (map cell_of xs))
cell_separator l [] i = grind (arith, nat_tests)
cell_separator l (x ∷ xs) zero = grind (arith, nat_tests)
cell_separator l (x ∷ xs) (suc i) = let ih = cell_separator l xs i in grind (arith, nat_tests)
