-- The cells of two leaves, one after the other.
use Rattle.std.proofs.Common.{◌≡◌, ℕ, ◌-◌, ◌<◌, true, ◌&&◌, List, [], ◌∷◌, ◌++◌, map, length, get_or, take, sym, ap, ◌∙◌, subst, arith}
use mathlib.Core.List.{map-append}
use Rattle.std.proofs.lemmas.List.{append-nil, take_all, nil_from_length}
use Rattle.std.proofs.lemmas.Bool.{and_parts}
use Rattle.cuts.specs.Keys.{key<}
use Rattle.tree.specs.Maps.{Rising}
use Rattle.page.specs.Kinds.{leaf_key, pair_of}
use Rattle.page.specs.Reading.{rising}
use Rattle.page.proofs.BranchOrders.{and_true}
use Rattle.page.proofs.Puts.{rising_pairs, rising_back}

-- the keys of both rise if those of each do, and the last of the first is below the first of the second
across : (x : List ℕ) (xs : List (List ℕ)) (y : List ℕ) (ys : List (List ℕ)) → rising leaf_key (x ∷ xs) ≡ true → rising leaf_key (y ∷ ys) ≡ true
    → rising leaf_key (x ∷ (xs ++ (y ∷ ys))) ≡ key< (leaf_key (get_or (x ∷ xs) (length xs) [])) (leaf_key y)
unfolding rising
across x [] y ys p q = and_true (key< (leaf_key x) (leaf_key y)) (rising leaf_key (y ∷ ys)) q
across x (z ∷ xs) y ys p q =
    let h = and_parts (key< (leaf_key x) (leaf_key z)) (rising leaf_key (z ∷ xs)) p in
    ap (λ t. t && rising leaf_key (z ∷ (xs ++ (y ∷ ys)))) h.0 ∙ across z xs y ys h.1 q

module _ (xs ys : List (List ℕ)) where
  pub first_empty : length xs ≡ 0 → rising leaf_key ys ≡ true → rising leaf_key (xs ++ ys) ≡ true
  first_empty e h = ap (λ zs. rising leaf_key (zs ++ ys)) (nil_from_length xs e) ∙ h

  pub second_empty : length ys ≡ 0 → rising leaf_key xs ≡ true → rising leaf_key (xs ++ ys) ≡ true
  second_empty e h = ap (λ zs. rising leaf_key (xs ++ zs)) (nil_from_length ys e) ∙ (ap (rising leaf_key) (append-nil xs) ∙ h)

pub both_rise : (xs ys : List (List ℕ)) (n : ℕ) → n ≡ length xs → 0 < n → 0 < length ys → rising leaf_key xs ≡ true → rising leaf_key ys ≡ true
    → rising leaf_key (xs ++ ys) ≡ key< (leaf_key (get_or xs (n - 1) [])) (leaf_key (get_or ys 0 []))
both_rise [] ys n e h k p q = absurd (omega arith)
both_rise (x ∷ xs) [] n e h k p q = absurd (omega arith)
both_rise (x ∷ xs) (y ∷ ys) n e h k p q =
    let m : length xs ≡ n - 1 = omega arith in
    across x xs y ys p q ∙ ap (λ i. key< (leaf_key (get_or (x ∷ xs) i [])) (leaf_key y)) m

-- as pairs
pub pairs_rise : (xs ys : List (List ℕ)) → rising leaf_key (xs ++ ys) ≡ true → Rising (map pair_of xs ++ map pair_of ys)
pairs_rise xs ys h = subst Rising (map-append pair_of xs ys) (rising_pairs (xs ++ ys) h)

pub cells_rise : (xs ys : List (List ℕ)) → Rising (map pair_of xs ++ map pair_of ys) → rising leaf_key (xs ++ ys) ≡ true
cells_rise xs ys h = rising_back (xs ++ ys) (subst Rising (sym (map-append pair_of xs ys)) h)

pub all_first : (xs ys : List (List ℕ)) (n : ℕ) → n ≡ length xs → take n xs ++ ys ≡ xs ++ ys
all_first xs ys n e = ap (λ zs. zs ++ ys) (take_all n xs (omega arith))
