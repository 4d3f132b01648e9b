-- A search among cells whose keys rise.
use Rattle.std.proofs.Common.{◌≡◌, ℕ, zero, suc, ◌+◌, ◌<◌, ◌≤◌, true, false, cond, List, [], ◌∷◌, length, get_or, sym, refl, ap, ◌∙◌, ⊎_elim, arith}
use Rattle.std.proofs.lemmas.Bool.{and_parts, cases_lt, cases_Bool, both_ways, cond_both}
use Rattle.cuts.specs.Keys.{key<, Below}
use Rattle.cuts.proofs.Order.{less_trans}
use Rattle.page.specs.Places.{up_to}
use Rattle.page.specs.Reading.{rising}

module _ (key : List ℕ → List ℕ) where
  rising_tail : (x : List ℕ) (xs : List (List ℕ)) → rising key (x ∷ xs) ≡ true → rising key xs ≡ true
  unfolding rising
  rising_tail x [] h = refl
  rising_tail x (y ∷ xs) h = (and_parts _ _ h).1

  -- the first key is below every later one
  first_below : (x : List ℕ) (xs : List (List ℕ)) (j : ℕ) → rising key (x ∷ xs) ≡ true → j < length xs → Below (key x) (key (get_or xs j []))
  unfolding rising
  first_below x [] j h l = absurd (omega arith)
  first_below x (y ∷ xs) zero h l = (and_parts _ _ h).0
  first_below x (y ∷ xs) (suc j) h l =
      less_trans (key x) (key y) (key (get_or xs j [])) (and_parts _ _ h).0 (first_below y xs j (and_parts _ _ h).1 (omega arith))

  pub rises : (xs : List (List ℕ)) (i j : ℕ) → rising key xs ≡ true → i < j → j < length xs → Below (key (get_or xs i [])) (key (get_or xs j []))
  rises [] i j h l m = absurd (omega arith)
  rises (x ∷ xs) i zero h l m = absurd (omega arith)
  rises (x ∷ xs) zero (suc j) h l m = first_below x xs j h (omega arith)
  rises (x ∷ xs) (suc i) (suc j) h l m = rises xs i j (rising_tail x xs h) (omega arith) (omega arith)

  -- the place that a search has come to
  pub up_to_is : (k : List ℕ) (xs : List (List ℕ)) (r : ℕ) → r ≤ length xs → ((j : ℕ) → j < r → key< k (key (get_or xs j [])) ≡ false)
      → ((j : ℕ) → r ≤ j → j < length xs → key< k (key (get_or xs j [])) ≡ true) → r ≡ up_to key k xs
  unfolding up_to
  up_to_is k [] r l f t = omega arith
  up_to_is k (x ∷ xs) zero l f t = sym (ap (λ b. cond b 0 (suc (up_to key k xs))) (t 0 (omega arith) (omega arith)))
  up_to_is k (x ∷ xs) (suc r) l f t =
      ap suc (up_to_is k xs r (omega arith) (λ j h. f (suc j) (omega arith)) (λ j h m. t (suc j) (omega arith) (omega arith)))
      ∙ sym (ap (λ b. cond b 0 (suc (up_to key k xs))) (f 0 (omega arith)))

  module _ (k : List ℕ) (xs : List (List ℕ)) (asc : rising key xs ≡ true) (m : ℕ) (h : m < length xs) where
    pub front_at_most : key< k (key (get_or xs m [])) ≡ false → (j : ℕ) → j < m + 1 → key< k (key (get_or xs j [])) ≡ false
    front_at_most b j l =
        ⊎_elim
        (λ lt. ⊎_elim
        (λ t. absurd (both_ways (key< k (key (get_or xs m []))) b (less_trans k (key (get_or xs j [])) (key (get_or xs m [])) t (rises xs j m asc lt h))))
        (λ f. f)
        (cases_Bool (key< k (key (get_or xs j [])))))
        (λ le. let e : j ≡ m = omega arith in ap (λ i. key< k (key (get_or xs i []))) e ∙ b)
        (cases_lt j m)

    pub back_above : key< k (key (get_or xs m [])) ≡ true → (j : ℕ) → m ≤ j → j < length xs → key< k (key (get_or xs j [])) ≡ true
    back_above b j l n =
        ⊎_elim
        (λ lt. less_trans k (key (get_or xs m [])) (key (get_or xs j [])) b (rises xs m j asc lt n))
        (λ le. let e : j ≡ m = omega arith in ap (λ i. key< k (key (get_or xs i []))) e ∙ b)
        (cases_lt m j)

  -- what a place says of the keys around it
  pub up_to_length : (k : List ℕ) (xs : List (List ℕ)) → up_to key k xs ≤ length xs
  unfolding up_to
  up_to_length k [] = omega arith
  up_to_length k (x ∷ xs) = cond_both (key< k (key x)) 0 (suc (up_to key k xs)) (λ n. n ≤ suc (length xs)) (λ _. omega arith) (λ _. omega (arith, up_to_length k xs))

  pub up_to_front : (k : List ℕ) (xs : List (List ℕ)) (j : ℕ) → j < up_to key k xs → key< k (key (get_or xs j [])) ≡ false
  unfolding up_to
  up_to_front k [] j h = absurd (omega arith)
  up_to_front k (x ∷ xs) zero h =
      ⊎_elim (λ t. absurd (omega (arith, ap (λ b. cond b 0 (suc (up_to key k xs))) t))) (λ f. f) (cases_Bool (key< k (key x)))
  up_to_front k (x ∷ xs) (suc j) h =
      ⊎_elim
      (λ t. absurd (omega (arith, ap (λ b. cond b 0 (suc (up_to key k xs))) t)))
      (λ f. up_to_front k xs j (omega (arith, ap (λ b. cond b 0 (suc (up_to key k xs))) f)))
      (cases_Bool (key< k (key x)))

  pub up_to_at : (k : List ℕ) (xs : List (List ℕ)) → up_to key k xs < length xs → key< k (key (get_or xs (up_to key k xs) [])) ≡ true
  unfolding up_to
  up_to_at k [] h = absurd (omega arith)
  up_to_at k (x ∷ xs) h =
      ⊎_elim
      (λ t. ap (λ n. key< k (key (get_or (x ∷ xs) n []))) (ap (λ b. cond b 0 (suc (up_to key k xs))) t) ∙ t)
      (λ f. let e = ap (λ b. cond b 0 (suc (up_to key k xs))) f in ap (λ n. key< k (key (get_or (x ∷ xs) n []))) e ∙ up_to_at k xs (omega arith))
      (cases_Bool (key< k (key x)))
