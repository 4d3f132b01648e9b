-- Separators that rise.
use Rattle.std.proofs.Common.{◌≡◌, ℕ, zero, suc, ◌+◌, ◌-◌, ◌<◌, ◌≤◌, Bool, true, false, ◌&&◌, List, [], ◌∷◌, ◌++◌, map, length, get_or, take, drop, sym, refl, ap, ◌∙◌, arith}
use Rattle.std.proofs.lemmas.List.{map_more, drop_more, drop_all}
use Rattle.std.proofs.lemmas.Bool.{and_parts, and_from}
use Rattle.cuts.specs.Keys.{key<}
use Rattle.cuts.specs.Nodes.{Cell}
use Rattle.cuts.proofs.Order.{less_trans}
use Rattle.tree.specs.Trees.{cell}
use Rattle.page.specs.Branches.{ascending, ends_below, starts_above}
use Rattle.page.specs.Kinds.{branch_key, cell_of}
use Rattle.page.specs.Reading.{rising}
use Rattle.page.proofs.Parts.{map_take, map_drop, rising_take, rising_drop}

pub rising_ascending : (xs : List (List ℕ)) → rising branch_key xs ≡ ascending (map cell_of xs)
unfolding rising ascending
rising_ascending [] = refl
rising_ascending (x ∷ []) = refl
rising_ascending (x ∷ y ∷ xs) = ap (λ b. key< (branch_key x) (branch_key y) && b) (rising_ascending (y ∷ xs))

pub and_true : (a b : Bool) → b ≡ true → (a && b) ≡ a
and_true true b h = h
and_true false b h = refl

-- one cell between two lists
pub ascending_with : (bs : List (Cell ℕ)) (c : Cell ℕ) (cs : List (Cell ℕ)) → ascending bs ≡ true → ascending cs ≡ true
    → ascending (bs ++ c ∷ cs) ≡ (ends_below bs c.separator && starts_above c.separator cs)
unfolding ascending ends_below starts_above
ascending_with [] c [] p q = refl
ascending_with [] c (d ∷ cs) p q = and_true (key< c.separator d.separator) (ascending (d ∷ cs)) q
ascending_with (b ∷ []) c cs p q = ap (λ t. key< b.separator c.separator && t) (ascending_with [] c cs refl q)
ascending_with (b ∷ d ∷ bs) c cs p q =
    let h = and_parts (key< b.separator d.separator) (ascending (d ∷ bs)) p in
    ap (λ t. t && ascending (d ∷ (bs ++ c ∷ cs))) h.0 ∙ ascending_with (d ∷ bs) c cs h.1 q

ends_push : (bs : List (Cell ℕ)) (c : Cell ℕ) (s : List ℕ) → ends_below (bs ++ c ∷ []) s ≡ key< c.separator s
unfolding ends_below
ends_push [] c s = refl
ends_push (b ∷ []) c s = refl
ends_push (b ∷ d ∷ bs) c s = ends_push (d ∷ bs) c s

module _ (xs : List (List ℕ)) (s : List ℕ) where
  pub ends_none : (n : ℕ) → n ≡ 0 → ends_below (take n (map cell_of xs)) s ≡ true
  unfolding ends_below
  ends_none n e = ap (λ m. ends_below (take m (map cell_of xs)) s) e

  pub ends_at : (n : ℕ) → 1 ≤ n → n ≤ length xs → ends_below (take n (map cell_of xs)) s ≡ key< (branch_key (get_or xs (n - 1) [])) s
  ends_at n l h =
      let m : n - 1 + 1 ≡ n = omega arith in
      ap (λ bs. ends_below bs s) (sym (map_take cell_of n xs) ∙ (ap (λ i. map cell_of (take i xs)) (sym m) ∙ map_more cell_of xs (n - 1) [] (omega arith)))
      ∙ ends_push (map cell_of (take (n - 1) xs)) (cell_of (get_or xs (n - 1) [])) s

  pub starts_none : (n : ℕ) → length xs ≤ n → starts_above s (drop n (map cell_of xs)) ≡ true
  unfolding starts_above
  starts_none n h = ap (starts_above s) (sym (map_drop cell_of n xs) ∙ ap (map cell_of) (drop_all n xs h))

  pub starts_at : (n : ℕ) → n < length xs → starts_above s (drop n (map cell_of xs)) ≡ key< s (branch_key (get_or xs n []))
  unfolding starts_above
  starts_at n h = ap (starts_above s) (sym (map_drop cell_of n xs) ∙ ap (map cell_of) (drop_more xs n [] h))

module _ (xs : List (List ℕ)) (h : rising branch_key xs ≡ true) where
  pub ascending_take : (n : ℕ) → ascending (take n (map cell_of xs)) ≡ true
  ascending_take n =
      ap ascending (sym (map_take cell_of n xs)) ∙ (sym (rising_ascending (take n xs)) ∙ rising_take branch_key n xs h)

  pub ascending_drop : (n : ℕ) → ascending (drop n (map cell_of xs)) ≡ true
  ascending_drop n =
      ap ascending (sym (map_drop cell_of n xs)) ∙ (sym (rising_ascending (drop n xs)) ∙ rising_drop branch_key n xs h)

module _ (key : List ℕ → List ℕ) where
  -- a cell in place of one with the same key
  pub rising_swap : (bs : List (List ℕ)) (x y : List ℕ) (ys : List (List ℕ)) → key x ≡ key y → rising key (bs ++ x ∷ ys) ≡ rising key (bs ++ y ∷ ys)
  unfolding rising
  rising_swap [] x y [] e = refl
  rising_swap [] x y (z ∷ ys) e = ap (λ k. key< k (key z) && rising key (z ∷ ys)) e
  rising_swap (a ∷ []) x y ys e =
      ap (λ k. key< (key a) k && rising key (x ∷ ys)) e ∙ ap (λ t. key< (key a) (key y) && t) (rising_swap [] x y ys e)
  rising_swap (a ∷ b ∷ bs) x y ys e = ap (λ t. key< (key a) (key b) && t) (rising_swap (b ∷ bs) x y ys e)

  -- all cells but one
  pub rising_without : (i : ℕ) (xs : List (List ℕ)) → rising key xs ≡ true → rising key (take i xs ++ drop (suc i) xs) ≡ true
  unfolding rising
  rising_without zero [] h = refl
  rising_without zero (x ∷ []) h = refl
  rising_without zero (x ∷ y ∷ xs) h = (and_parts _ _ h).1
  rising_without (suc i) [] h = refl
  rising_without (suc zero) (x ∷ []) h = refl
  rising_without (suc zero) (x ∷ y ∷ []) h = refl
  rising_without (suc zero) (x ∷ y ∷ z ∷ xs) h =
      let p = and_parts _ _ h in
      let q = and_parts _ _ p.1 in
      and_from _ _ (less_trans (key x) (key y) (key z) p.0 q.0) q.1
  rising_without (suc (suc i)) (x ∷ []) h = refl
  rising_without (suc (suc i)) (x ∷ y ∷ xs) h =
      let p = and_parts _ _ h in
      and_from _ _ p.0 (rising_without (suc i) (y ∷ xs) p.1)

-- a separator between the first cells of one page and the last ones of another
module _ (xs ys : List (List ℕ)) (hx : rising branch_key xs ≡ true) (hy : rising branch_key ys ≡ true) (k m : ℕ) (s : List ℕ) (x : ℕ) where
  sorted_is : ascending (take k (map cell_of xs) ++ cell s x ∷ drop m (map cell_of ys)) ≡ (ends_below (take k (map cell_of xs)) s && starts_above s (drop m (map cell_of ys)))
  sorted_is =
      ascending_with (take k (map cell_of xs)) (cell s x) (drop m (map cell_of ys)) (ascending_take xs hx k) (ascending_drop ys hy m)

  pub sorted_parts : ascending (take k (map cell_of xs) ++ cell s x ∷ drop m (map cell_of ys)) ≡ true → (ends_below (take k (map cell_of xs)) s ≡ true) × (starts_above s (drop m (map cell_of ys)) ≡ true)
  sorted_parts h = and_parts _ _ (sym sorted_is ∙ h)

  pub sorted_from : ends_below (take k (map cell_of xs)) s ≡ true → starts_above s (drop m (map cell_of ys)) ≡ true → ascending (take k (map cell_of xs) ++ cell s x ∷ drop m (map cell_of ys)) ≡ true
  sorted_from p q = sorted_is ∙ and_from _ _ p q
