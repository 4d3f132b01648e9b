-- The separator of two keys.
use Rattle.std.proofs.Common.{◌≡◌, ℕ, zero, suc, ◌+◌, ◌≤◌, min, true, false, cond, nat_eq, List, [], ◌∷◌, length, take, refl, ap, arith}
use Rattle.std.specs.List.{zip, prefix_len}
use Rattle.std.proofs.lemmas.Bool.Decides.{nat_tests}
use Rattle.cuts.specs.Keys.{key<, Below, AtMost, separator}
use Rattle.cuts.specs.Laws.{SeparatorsAreShortest}
use Rattle.cuts.proofs.Order.{less_nil}

pub separator_above : (a b : List ℕ) → Below a b → Below a (separator a b)
unfolding key< separator
separator_above [] [] p = p
separator_above [] (y ∷ ys) p = refl
separator_above (x ∷ xs) [] p = p
separator_above (x ∷ xs) (y ∷ ys) p = let h = separator_above xs ys in grind (arith, nat_tests)

pub separator_most : (a b : List ℕ) → AtMost (separator a b) b
unfolding key< separator
separator_most [] [] = refl
separator_most [] (y ∷ ys) = grind (arith, nat_tests, less_nil)
separator_most (x ∷ xs) [] = refl
separator_most (x ∷ xs) (y ∷ ys) = let h = separator_most xs ys in grind (arith, nat_tests, less_nil)

separator_prefix : (a b : List ℕ) → take (length (separator a b)) b ≡ separator a b
unfolding separator
separator_prefix [] [] = refl
separator_prefix [] (y ∷ ys) = refl
separator_prefix (x ∷ xs) [] = refl
separator_prefix (x ∷ xs) (y ∷ ys) = let h = separator_prefix xs ys in grind (arith, nat_tests)

separator_shortest : (a b : List ℕ) → (j : ℕ) → Below a (take j b) → length (separator a b) ≤ j
unfolding key< separator
separator_shortest [] [] j q = omega arith
separator_shortest [] (y ∷ ys) zero q = grind arith
separator_shortest [] (y ∷ ys) (suc j) q = omega arith
separator_shortest (x ∷ xs) [] j q = omega arith
separator_shortest (x ∷ xs) (y ∷ ys) zero q = grind arith
separator_shortest (x ∷ xs) (y ∷ ys) (suc j) q = let h = separator_shortest xs ys in grind (arith, nat_tests)

pub separator_within : (a b : List ℕ) → length (separator a b) ≤ length b
unfolding separator
separator_within [] [] = omega arith
separator_within [] (y ∷ ys) = omega arith
separator_within (x ∷ xs) [] = omega arith
separator_within (x ∷ xs) (y ∷ ys) = let h = separator_within xs ys in grind (arith, nat_tests)

pub separator_some : (a b : List ℕ) → Below a b → 1 ≤ length (separator a b)
unfolding key< separator
separator_some [] [] p = grind arith
separator_some [] (y ∷ ys) p = omega arith
separator_some (x ∷ xs) [] p = grind arith
separator_some (x ∷ xs) (y ∷ ys) p = grind (arith, nat_tests)

-- how many bytes two keys begin with alike
abbrev pub shared : List ℕ → List ℕ → ℕ
shared a b = prefix_len (λ p. nat_eq p.0 p.1) (zip a b)

pub separator_taken : (a b : List ℕ) → take (min (length b) (shared a b + 1)) b ≡ separator a b
unfolding separator
separator_taken [] [] = refl
separator_taken [] (y ∷ ys) = grind (arith, nat_tests)
separator_taken (x ∷ xs) [] = refl
separator_taken (x ∷ xs) (y ∷ ys) =
    let more : min (suc (length ys)) (1 + shared xs ys + 1) ≡ suc (min (length ys) (shared xs ys + 1)) = omega arith in
    let last : min (suc (length ys)) 1 ≡ 1 = omega arith in
    elim (nat_eq x y) as (λ t. take (min (suc (length ys)) (cond t (1 + shared xs ys) 0 + 1)) (y ∷ ys) ≡ cond t (y ∷ separator xs ys) (y ∷ [])) [
      | true ↦ rw more (ap (λ r. y ∷ r) (separator_taken xs ys))
      | false ↦ rw last
    ]

pub separators_are_shortest_lem : SeparatorsAreShortest
separators_are_shortest_lem a b p = record {
  above = separator_above a b p;
  at_most = separator_most a b;
  prefix = separator_prefix a b;
  shortest = separator_shortest a b;
  within = separator_within a b;
  some = separator_some a b p;
}
