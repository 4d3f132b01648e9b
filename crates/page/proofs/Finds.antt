-- Keys among the pairs of a leaf.
use Rattle.std.proofs.Common.{◌≡◌, ℕ, zero, suc, ◌+◌, ◌-◌, ◌<◌, ◌≤◌, true, cond, List, [], ◌∷◌, map, length, get_or, drop, Some, None, Ok, Err, Result, sym, refl, ap, ◌∙◌, ⊎_elim, arith}
use Rattle.std.proofs.lemmas.List.{length-map}
use Rattle.std.specs.Result.{result_ok}
use Rattle.cuts.specs.Nodes.{Pair}
use Rattle.std.proofs.lemmas.Bool.{cases_lt, both_ways, lt-ltb}
use Rattle.cuts.specs.Keys.{key<}
use Rattle.cuts.proofs.Order.{less_self}
use Rattle.page.specs.Kinds.{leaf_key, pair_of}
use Rattle.page.specs.Places.{up_to}
use Rattle.page.specs.Reading.{rising}
use Rattle.page.specs.Views.{key_of, key_at, value_at, value_of_place, FindsKey, SeeksKey}
use Rattle.page.proofs.Places.{rises, back_above, up_to_length, up_to_front, up_to_at}

pub up_to_pairs : (k : List ℕ) (xs : List (List ℕ)) → up_to key_of k (map pair_of xs) ≡ up_to leaf_key k xs
unfolding up_to
up_to_pairs k [] = refl
up_to_pairs k (x ∷ xs) = ap (λ n. cond (key< k (leaf_key x)) 0 (suc n)) (up_to_pairs k xs)

pub key_at_lem : (xs : List (List ℕ)) (i : ℕ) → i < length xs → key_at (map pair_of xs) i ≡ leaf_key (get_or xs i [])
key_at_lem [] i h = absurd (omega arith)
key_at_lem (x ∷ xs) zero h = refl
key_at_lem (x ∷ xs) (suc i) h = key_at_lem xs i (omega arith)

pub value_at_lem : (xs : List (List ℕ)) (i : ℕ) → i < length xs → value_at (map pair_of xs) i ≡ drop (2 + get_or (get_or xs i []) 0 0) (get_or xs i [])
value_at_lem [] i h = absurd (omega arith)
value_at_lem (x ∷ xs) zero h = refl
value_at_lem (x ∷ xs) (suc i) h = value_at_lem xs i (omega arith)

module _ (xs : List (List ℕ)) (i : ℕ) (s : List ℕ) (h : i < length (map pair_of xs)) where
  pub value_some : s ≡ drop (2 + get_or (get_or xs i []) 0 0) (get_or xs i []) → Some s ≡ value_of_place i (map pair_of xs)
  value_some e =
      ap Some (e ∙ sym (value_at_lem xs i (omega (arith, length-map xs pair_of)))) ∙ sym (ap (λ t. cond t (Some (value_at (map pair_of xs) i)) None) (lt-ltb _ _ h))

module _ (k : List ℕ) (xs : List (List ℕ)) (asc : rising leaf_key xs ≡ true) (a : ℕ) (e : a ≡ up_to leaf_key k xs) where
  above_differs : (j : ℕ) → a ≤ j → j < length xs → leaf_key (get_or xs j []) ≡ k → ⊥
  above_differs j l h q =
      let t : key< k (leaf_key (get_or xs a [])) ≡ true = ap (λ n. key< k (leaf_key (get_or xs n []))) e ∙ up_to_at leaf_key k xs (omega arith) in
      both_ways (key< k k) (less_self k) (ap (key< k) (sym q) ∙ back_above leaf_key k xs asc a (omega arith) t j l h)

  pub none_found : (1 ≤ a → ⊥) → FindsKey (map pair_of xs) k None
  none_found z j l q =
      let h : j < length xs = omega (arith, length-map xs pair_of) in
      above_differs j (omega arith) h (sym (key_at_lem xs j h) ∙ q)

  -- the last key that is at most the one sought
  module _ (i : ℕ) (s : 1 ≤ a) (p : i ≡ a - 1) where
    pub found : leaf_key (get_or xs i []) ≡ k → FindsKey (map pair_of xs) k (Some i)
    found h =
        let l : i < length xs = omega (arith, up_to_length leaf_key k xs) in
        (omega (arith, length-map xs pair_of), key_at_lem xs i l ∙ h)

    below_differs : (j : ℕ) → j < a → (leaf_key (get_or xs i []) ≡ k → ⊥) → leaf_key (get_or xs j []) ≡ k → ⊥
    below_differs j l n q =
        ⊎_elim
        (λ lt. both_ways (key< k (leaf_key (get_or xs i []))) (up_to_front leaf_key k xs i (omega arith))
        (ap (λ z. key< z (leaf_key (get_or xs i []))) (sym q) ∙ rises leaf_key xs j i asc lt (omega (arith, up_to_length leaf_key k xs))))
        (λ le. let m : j ≡ i = omega arith in n (ap (λ n. leaf_key (get_or xs n [])) (sym m) ∙ q))
        (cases_lt j i)

    pub missing : (leaf_key (get_or xs i []) ≡ k → ⊥) → FindsKey (map pair_of xs) k None
    missing n j l q =
        let h : j < length xs = omega (arith, length-map xs pair_of) in
        let r = sym (key_at_lem xs j h) ∙ q in
        ⊎_elim (λ lt. below_differs j lt n r) (λ le. above_differs j le h r) (cases_lt j a)

pub found_in : (ps : List Pair) (k : List ℕ) (r : Result ℕ ℕ) → SeeksKey ps k r → FindsKey ps k (result_ok r)
found_in ps k (Ok i) s = s
found_in ps k (Err a) s = s.0
