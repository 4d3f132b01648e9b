-- Parts of lists of cells whose keys rise, and what they are as values.
use Rattle.std.proofs.Common.{◌≡◌, ℕ, zero, suc, ◌-◌, Bool, true, List, [], ◌∷◌, map, take, drop, refl, ap, ◌∙◌}
use Rattle.std.specs.List.{between}
use Rattle.std.proofs.lemmas.Bool.{and_parts, and_from}
use Rattle.page.specs.Reading.{every, rising}

module _ {X : Type 0} (f : List ℕ → X) where
  pub map_take : (n : ℕ) (xs : List (List ℕ)) → map f (take n xs) ≡ take n (map f xs)
  map_take zero xs = refl
  map_take (suc n) [] = refl
  map_take (suc n) (x ∷ xs) = ap (λ r. f x ∷ r) (map_take n xs)

  pub map_drop : (n : ℕ) (xs : List (List ℕ)) → map f (drop n xs) ≡ drop n (map f xs)
  map_drop zero xs = refl
  map_drop (suc n) [] = refl
  map_drop (suc n) (x ∷ xs) = map_drop n xs

  pub map_between : (i j : ℕ) (xs : List (List ℕ)) → map f (between i j xs) ≡ between i j (map f xs)
  map_between i j xs = map_take (j - i) (drop i xs) ∙ ap (take (j - i)) (map_drop i xs)

module _ (good : List ℕ → Bool) where
  pub every_take : (n : ℕ) (xs : List (List ℕ)) → every good xs ≡ true → every good (take n xs) ≡ true
  every_take zero xs h = refl
  every_take (suc n) [] h = refl
  every_take (suc n) (x ∷ xs) h = let p = and_parts _ _ h in and_from _ _ p.0 (every_take n xs p.1)

  pub every_drop : (n : ℕ) (xs : List (List ℕ)) → every good xs ≡ true → every good (drop n xs) ≡ true
  every_drop zero xs h = h
  every_drop (suc n) [] h = refl
  every_drop (suc n) (x ∷ xs) h = every_drop n xs (and_parts _ _ h).1

  pub every_between : (i j : ℕ) (xs : List (List ℕ)) → every good xs ≡ true → every good (between i j xs) ≡ true
  every_between i j xs h = every_take (j - i) (drop i xs) (every_drop i xs h)

module _ (key : List ℕ → List ℕ) where
  pub rising_drop : (n : ℕ) (xs : List (List ℕ)) → rising key xs ≡ true → rising key (drop n xs) ≡ true
  unfolding rising
  rising_drop zero xs h = h
  rising_drop (suc n) [] h = refl
  rising_drop (suc zero) (x ∷ []) h = refl
  rising_drop (suc (suc n)) (x ∷ []) h = refl
  rising_drop (suc n) (x ∷ y ∷ xs) h = rising_drop n (y ∷ xs) (and_parts _ _ h).1

  pub rising_take : (n : ℕ) (xs : List (List ℕ)) → rising key xs ≡ true → rising key (take n xs) ≡ true
  unfolding rising
  rising_take zero xs h = refl
  rising_take (suc n) [] h = refl
  rising_take (suc zero) (x ∷ xs) h = refl
  rising_take (suc (suc n)) (x ∷ []) h = refl
  rising_take (suc (suc n)) (x ∷ y ∷ xs) h = let p = and_parts _ _ h in and_from _ _ p.0 (rising_take (suc n) (y ∷ xs) p.1)

  pub rising_between : (i j : ℕ) (xs : List (List ℕ)) → rising key xs ≡ true → rising key (between i j xs) ≡ true
  rising_between i j xs h = rising_take (j - i) (drop i xs) (rising_drop i xs h)
